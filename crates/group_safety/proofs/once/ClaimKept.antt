-- A claim keeps a run known, and so does an emission.
use Rattle.std.proofs.Common.{◌≡◌, ◌<◌, ◌≤◌, refl, sym, ap, ◌∙◌, subst, inl, inr, ◌⊎◌, ℕ}
use Rattle.std.proofs.Common.{List, [], ◌∷◌, ◌++◌, length, map, take, Bool, true, false, cond}
use Rattle.std.proofs.Common.{Option, Some, None, arith}
use Rattle.std.specs.Prelude.{option_map, slice_get, ◌==◌}
use Rattle.std.proofs.lemmas.Bool.{le-leb, eqb-false}
use Rattle.std.proofs.lemmas.List.{append-nil, length-take-le}
use Rattle.lan_base.specs.declared.association_number.AssociationNumber.{AssociationNumber}
use Rattle.lan_base.specs.declared.address.Sci.{Sci}
use Rattle.lan_base.specs.declared.frame.UserFrame.{UserFrame}
use Rattle.aes_block.specs.Secrets.{secret_octets}
use Rattle.gcm_frames.specs.Tags.{is_sec}
use Rattle.gcm_frames.specs.Protected.{protected}
use Rattle.sak_exchange.specs.declared.held_key.Key.{Key}
use Rattle.sak_exchange.specs.Held.{transmitting}
use Rattle.lan_core.specs.declared.event.Event.TheVariants as events
use Rattle.lan_core.specs.declared.fact.Fact.{Fact}
use Rattle.lan_core.specs.declared.fact.Fact.TheVariants as facts
use Rattle.lan_core.specs.declared.fact.Lack.{Lack}
use Rattle.lan_core.specs.declared.settings.Settings.{Settings}
use Rattle.lan_core.specs.Run.{Run, Happening, happened, Profile, stations}
use Rattle.lan_core.specs.Ledgers.{Install, Frame, air}
use Rattle.lan_core.specs.Ledgers.{next_frame, Claim, claims}
use Rattle.lan_core.specs.Lives.{Life, life, keys_in, transmitting_at}
use Rattle.lan_core.specs.Claims.{next, Waiting, claimed, claimed_by, waiting_under, waiting}
use Rattle.lan_core.specs.Claims.{user_at, frame_by, frame_of_claim, a_claim}
use Rattle.lan_core.specs.Expected.{expected, emit_facts, claim_fact}
use Rattle.lan_core.specs.Expected.{number_fact, lack}
use Rattle.lan_core.specs.Order.{IsClaimable, IsSendable}
use Rattle.lan_core.specs.Types.{IsUserFrame}
use Rattle.lan_core.specs.Legal.{IsStep}
use Rattle.lan_core.proofs.Public.{stays-passed}
use Rattle.group_safety.specs.Once.{shown_made}
use Rattle.group_safety.proofs.Members.{In, in-from_map, in-either}
use Rattle.group_safety.proofs.once.Ledgers.{Installation, Book, Change}
use Rattle.group_safety.proofs.once.Ledgers.{was_claimed, MayClaim, book, AreAllowed}
use Rattle.group_safety.proofs.once.OneKeyEach.{made_in}
use Rattle.group_safety.proofs.once.KeysSound.{transmitting-installed}
use Rattle.group_safety.proofs.once.Carried.{IsCarried, carried-more}
use Rattle.group_safety.proofs.once.Rules.{said_by}
use Rattle.group_safety.proofs.once.Origins.{said-later}
use Rattle.group_safety.proofs.once.Gists.{IsGist, IsQuiet}
use Rattle.group_safety.proofs.once.Nexts.{makes-same, births-next, installs-next, air-next}
use Rattle.group_safety.proofs.once.Nexts.{claims-next}
use Rattle.group_safety.proofs.once.Nexts.{drawn-next, stations-next, claimed-next}
use Rattle.group_safety.proofs.once.Nexts.{life-next, in-get}
use Rattle.group_safety.proofs.once.Nexts.{mapped, chained}
use Rattle.group_safety.proofs.once.Books.{plain}
use Rattle.group_safety.proofs.once.Living.{group_kek, IsTold, install_by, IsPlain}
use Rattle.group_safety.proofs.once.Living.{IsKnown, living-later}
use Rattle.group_safety.proofs.once.Stepping.{next-more, plain-same}

-- ---- claims and emissions

-- an event that changes no life
still-kept : (settings : Settings) (users : List UserFrame) (x : Happening) (r : Run)
    {fs : List Frame} {cs : List Claim}
    → IsGist x.facts [] [] fs cs → ((t : ℕ) → life settings t (x ∷ r) ≡ life settings t r)
    → shown_made x.facts x.event ≡ [] → (k : IsKnown settings users r) (new : List Change)
    → AreAllowed new → (book new).births ≡ (book k.changes).births
    → (book new).spoken ≡ (book k.changes).spoken
    → (book new).installs ≡ (book k.changes).installs
    → (book new).claims ≡ cs ++ (book k.changes).claims
    → ((t : ℕ) → (book new).life t ≡ (book k.changes).life t)
    → ((f : Frame) → In f fs → IsCarried (IsTold settings (book new) (x ∷ r)) f.octets)
    → IsPlain settings users (x ∷ r) → IsKnown settings users (x ∷ r)
still-kept settings users x r {fs} {cs} g still no_tick k new allowed births' spoken' installs'
    claims' lives' carried plain' = record {
      changes = new;
      allowed = allowed;
      shows = record {
        births = births' ∙ k.shows.births ∙ sym (births-next x r g);
        installs = ap (map plain) installs' ∙ k.shows.installs ∙ sym (installs-next x r g);
        makes = ap (λ is. map plain (made_in is)) installs' ∙ k.shows.makes
            ∙ sym (makes-same x r no_tick);
        claims = claims' ∙ ap (λ w. cs ++ w) k.shows.claims ∙ sym (claims-next x r g);
        air = λ y i. elim (in-either fs (air r) y (subst (λ w. In y w) (air-next x r g) i)) [
          | inl front ↦ carried y front
          | inr older ↦
              carried-more (IsTold settings (book k.changes) r) (IsTold settings (book new) (x ∷ r))
              y.octets
              (λ a told. record {
                said = subst (λ w. In (said_by (group_kek settings) a) w) (sym spoken') told.said;
                origin = said-later settings x r a told.origin;
              })
              (k.shows.air y older)
        ];
        lives = λ t n e. lives' t ∙ k.shows.lives t n (sym (still t) ∙ e);
      };
      living = λ t n e. living-later settings x r t n g (k.living t n (sym (still t) ∙ e));
      plain = plain';
    }

claim-still : (settings : Settings) (s user pn : ℕ) (f : List Fact) (r : Run) (t : ℕ)
    → life settings t (happened (events.Claim s user pn) f ∷ r) ≡ life settings t r
claim-still settings s user pn f r t = life-next settings t (happened (events.Claim s user pn) f) r

emit-still : (settings : Settings) (f : List Fact) (r : Run) (t : ℕ)
    → life settings t (happened events.Emit f ∷ r) ≡ life settings t r
emit-still settings f r t = life-next settings t (happened events.Emit f) r

-- a claim that got no number
refused-kept : (settings : Settings) (users : List UserFrame) (s user pn : ℕ) (why : Lack)
    (f : List Fact) (r : Run)
    → facts.Unclaimed s why ∷ [] ≡ f → claimed_by settings r (events.Claim s user pn) ≡ []
    → IsKnown settings users r → IsKnown settings users (happened (events.Claim s user pn) f ∷ r)
refused-kept settings users s user pn why f r shows unclaimed k =
    let x = happened (events.Claim s user pn) f in
    let g : IsQuiet f =
    subst IsQuiet shows
    (record {
      births = λ xs. refl;
      installs = λ xs. refl;
      air = λ xs. refl;
      claims =
          λ xs. refl;
    }) in
    still-kept settings users x r g (claim-still settings s user pn f r) refl k k.changes k.allowed
    refl refl refl refl (λ t. refl) (λ y i. elim i [ ])
    (plain-same settings users x r refl (births-next x r g) (claims-next x r g) unclaimed
    (ap (map (λ (i : Install). secret_octets i.sak)) (makes-same x r refl) ∙ k.plain.drawn
    ∙ sym (drawn-next x r)) k.plain)

-- the key that transmits was installed
record IsInstalled (b : Book) (s epoch : ℕ) : Type 0 where
  install : Installation
  place : In install b.installs
  station : install.station ≡ s
  same : install.epoch ≡ epoch

transmitting-in : (settings : Settings) (users : List UserFrame) (r : Run) (s : ℕ) (key : Key)
    (k : IsKnown settings users r)
    → transmitting_at settings s r ≡ Some key → IsInstalled (book k.changes) s key.epoch
transmitting-in settings users r s key k e =
    let found = chained (λ (l : Life). transmitting (keys_in l)) (life settings s r) key e in
    let v = k.living s found.0 found.1 in
    let place = v.backed key (transmitting-installed (keys_in found.0) key found.2) in
    let i = in-from_map plain (book k.changes).installs (install_by s key)
    (subst (λ w. In (install_by s key) w) (sym k.shows.installs) place) in
    record {
      install = i.0;
      place = i.1;
      station = ap (λ (w : Install). w.station) (sym i.2);
      same = ap (λ (w : Install). w.epoch) (sym i.2);
    }

-- a claim that got a number
numbered-kept : (settings : Settings) (users : List UserFrame) (s user pn : ℕ) (key : Key)
    (f : List Fact) (r : Run)
    → facts.Claimed s key.an key.epoch pn ∷ [] ≡ f → (k : IsKnown settings users r)
    → transmitting_at settings s r ≡ Some key → next settings s key.epoch r ≤ pn
    → IsSendable (user_at users user)
    → claimed_by settings r (events.Claim s user pn)
    ≡ record { station = s; key = key; pn = pn; user = user } ∷ []
    → IsKnown settings users (happened (events.Claim s user pn) f ∷ r)
numbered-kept settings users s user pn key f r shows k sends least sendable claims_it =
    still-kept settings users x r g (claim-still settings s user pn f r) refl k
    (was_claimed c ∷ k.changes)
    (may, k.allowed) refl refl refl refl (λ t. refl) (λ y i. elim i [ ]) plain'
  where
    x : Happening
    x = happened (events.Claim s user pn) f

    c : Claim
    c = record { station = s; an = key.an; epoch = key.epoch; pn = pn }

    g : IsGist f [] [] [] (c ∷ [])
    g = subst (λ w. IsGist w [] [] [] (c ∷ [])) shows
        (record {
          births = λ xs. refl;
          installs = λ xs. refl;
          air = λ xs. refl;
          claims =
              λ xs. refl;
        })

    at : IsInstalled (book k.changes) s key.epoch
    at = transmitting-in settings users r s key k sends

    above : (d : Claim) → In d (book k.changes).claims → d.station ≡ s → d.epoch ≡ key.epoch
        → d.pn < pn
    above d i same_s same_e =
        let less = k.plain.below d (subst (λ w. In d w) k.shows.claims i) in
        let less' : d.pn < next settings s key.epoch r = subst (λ n. d.pn < next settings s n r)
        same_e (subst (λ n. d.pn < next settings n d.epoch r) same_s less) in
        omega (arith, less', least)

    may : MayClaim (book k.changes) c
    may = record { installed = (at.install, at.place, at.station, at.same); new = above }

    stays : stations (x ∷ r) ≡ stations r
    stays = stations-next x r ∙ append-nil (stations r)

    waits : claimed settings (x ∷ r) ≡ claimed settings r
        ++ record { station = s; key = key; pn = pn; user = user } ∷ []
    waits = claimed-next settings x r ∙ ap (λ w. claimed settings r ++ w) claims_it

    here-sendable : (w : Waiting)
        → In w (record { station = s; key = key; pn = pn; user = user } ∷ [])
        → IsSendable (user_at users w.user)
    here-sendable w (inl e) = subst (λ n. IsSendable (user_at users n))
        (sym (ap (λ (w : Waiting). w.user) e)) sendable
    here-sendable w (inr i) = elim i [ ]

    here-below : (d : Claim) → In d (c ∷ claims r) → d.pn < next settings d.station d.epoch (x ∷ r)
    here-below d (inl e) =
        let passed : pn < next settings s key.epoch (a_claim s user key.an key.epoch pn ∷ r) =
        stays-passed settings s user key.an key.epoch pn [] r in
        let now : c.pn < next settings c.station c.epoch (x ∷ r) =
        subst (λ w. pn < next settings s key.epoch (happened (events.Claim s user pn) w ∷ r))
        shows passed in
        subst (λ (w : Claim). w.pn < next settings w.station w.epoch (x ∷ r)) (sym e) now
    here-below d (inr i) = next-more settings x r d (k.plain.below d i)

    plain' : IsPlain settings users (x ∷ r)
    plain' = record {
      typed = λ q i. k.plain.typed q (subst (λ w. In q w) stays i);
      apart = rw stays k.plain.apart;
      placed = λ b i. rw stays (k.plain.placed b (subst (λ w. In b w) (births-next x r g) i));
      drawn = ap (map (λ (i : Install). secret_octets i.sak)) (makes-same x r refl) ∙ k.plain.drawn
          ∙ sym (drawn-next x r);
      sendable = λ w i. elim (in-either (claimed settings r) _ w (subst (λ ws. In w ws) waits i)) [
        | inl older ↦ k.plain.sendable w older
        | inr new ↦ here-sendable w new
      ];
      below = λ d i. here-below d (subst (λ cs. In d cs) (claims-next x r g) i);
    }

claim-by : (settings : Settings) (users : List UserFrame) (s user pn : ℕ) (f : List Fact) (r : Run)
    (o : Option Key)
    → transmitting_at settings s r ≡ o → claim_fact settings s r pn o ∷ [] ≡ f
    → IsSendable (user_at users user) → (pn ≡ 0) ⊎ IsClaimable settings s r pn o
    → IsKnown settings users r → IsKnown settings users (happened (events.Claim s user pn) f ∷ r)
claim-by settings users s user pn f r o sends shows sendable order k = go (pn == 0) refl
  where
    taken : claimed_by settings r (events.Claim s user pn) ≡ waiting_under s user pn o
    taken = ap (waiting_under s user pn) sends

    numbered : (q : Option Key) → o ≡ q → (pn == 0) ≡ false
        → number_fact s pn q ∷ [] ≡ f → (pn ≡ 0) ⊎ IsClaimable settings s r pn q
        → IsKnown settings users (happened (events.Claim s user pn) f ∷ r)
    numbered q is other shown (inl e) = absurd (eqb-false pn 0 other e)
    numbered None is other shown (inr c) = absurd c
    numbered (Some key) is other shown (inr c) =
        numbered-kept settings users s user pn key f r shown k (sends ∙ is) c.0 sendable
        (taken ∙ ap (waiting_under s user pn) is
        ∙ ap (λ b. cond b [] (record { station = s; key = key; pn = pn; user = user } ∷ []))
        other)

    none-waits : (q : Option Key) → (pn == 0) ≡ true → waiting_under s user pn q ≡ []
    none-waits None e = refl
    none-waits (Some key) e =
        ap (λ b. cond b [] (record { station = s; key = key; pn = pn; user = user } ∷ [])) e

    go : (b : Bool) → (pn == 0) ≡ b
        → IsKnown settings users (happened (events.Claim s user pn) f ∷ r)
    go true e =
        refused-kept settings users s user pn (lack settings s r o) f r
        (sym (ap (λ b. cond b (facts.Unclaimed s (lack settings s r o)) (number_fact s pn o) ∷ [])
        e) ∙ shows)
        (taken ∙ none-waits o e) k
    go false e =
        numbered o refl e
        (sym (ap (λ b. cond b (facts.Unclaimed s (lack settings s r o)) (number_fact s pn o) ∷ [])
        e) ∙ shows) order

pub claim-kept : (settings : Settings) (users : List UserFrame) (s user pn : ℕ) (f : List Fact)
    (r : Run)
    → IsStep settings users (happened (events.Claim s user pn) f) r → IsKnown settings users r
    → IsKnown settings users (happened (events.Claim s user pn) f ∷ r)
unfolding expected
claim-kept settings users s user pn f r step k =
    let found = mapped (λ l. claim_fact settings s r pn (transmitting_at settings s r) ∷ [])
    (life settings s r) f step.shows in
    claim-by settings users s user pn f r (transmitting_at settings s r) refl found.2
    step.in_order.1.1 step.in_order.1.2 k

-- ---- a protected frame

six : (P : List ℕ → Type 0) → ((a b c d e f : ℕ) → P (a ∷ b ∷ c ∷ d ∷ e ∷ f ∷ [])) → (xs : List ℕ)
    → length xs ≡ 6 → P xs
six P each (a ∷ b ∷ c ∷ d ∷ e ∷ f ∷ []) is = each a b c d e f
six P each [] is = absurd (omega (arith, is))
six P each (a ∷ []) is = absurd (omega (arith, is))
six P each (a ∷ b ∷ []) is = absurd (omega (arith, is))
six P each (a ∷ b ∷ c ∷ []) is = absurd (omega (arith, is))
six P each (a ∷ b ∷ c ∷ d ∷ []) is = absurd (omega (arith, is))
six P each (a ∷ b ∷ c ∷ d ∷ e ∷ []) is = absurd (omega (arith, is))
six P each (a ∷ b ∷ c ∷ d ∷ e ∷ f ∷ g ∷ xs) is = absurd (omega (arith, is))

head-is-sec : (d s t rest : List ℕ) → length d ≡ 6 → length s ≡ 6
    → is_sec ((d ++ (s ++ 0x88 ∷ 0xe5 ∷ t)) ++ rest) ≡ true
head-is-sec d s t rest dl sl =
    six (λ d. is_sec ((d ++ (s ++ 0x88 ∷ 0xe5 ∷ t)) ++ rest) ≡ true) (λ a b c e f g.
    six (λ s. is_sec (((a ∷ b ∷ c ∷ e ∷ f ∷ g ∷ []) ++ (s ++ 0x88 ∷ 0xe5 ∷ t)) ++ rest) ≡ true)
    (λ h i j k l m.
    rw (le-leb 14
    (length (a ∷ b ∷ c ∷ e ∷ f ∷ g ∷ h ∷ i ∷ j ∷ k ∷ l ∷ m ∷ 0x88 ∷ 0xe5 ∷ (t ++ rest)))
    (omega arith)) refl) s sl) d dl

pub protected-is_sec : (key : List ℕ) (sci : Sci) (an : AssociationNumber) (pn : ℕ) (conf : Bool)
    (user : UserFrame)
    → length sci.0 ≡ 8
    → length user.destination.0 ≡ 6 → is_sec (protected key sci an pn conf user) ≡ true
protected-is_sec key sci an pn true user sl dl =
    head-is-sec user.destination.0 (take 6 sci.0) _ _ dl
    (length-take-le 6 sci.0 (omega (arith, sl)))
protected-is_sec key sci an pn false user sl dl =
    head-is-sec user.destination.0 (take 6 sci.0) _ _ dl
    (length-take-le 6 sci.0 (omega (arith, sl)))

emit-on : (settings : Settings) (users : List UserFrame) (f : List Fact) (r : Run) (w : Waiting)
    (p : Profile) (user : UserFrame)
    → IsKnown settings users r → waiting settings r ≡ Some w
    → slice_get (stations r) w.station ≡ Some p
    → user_at users w.user ≡ Some user
    → facts.Framed (next_frame r) w.station true (frame_by w p user) ∷ [] ≡ f
    → IsKnown settings users (happened events.Emit f ∷ r)
emit-on settings users f r w p user k waits place given shows =
    let x = happened events.Emit f in
    let frame : Frame =
    record {
      number = next_frame r;
      station = w.station;
      sec = true;
      octets =
          frame_by w p user;
    } in
    let g : IsGist f [] [] (frame ∷ []) [] = subst (λ w. IsGist w [] [] (frame ∷ []) []) shows
    (record { births = λ xs. refl; installs = λ xs. refl; air = λ xs. refl; claims = λ xs. refl })
    in
    let sends : IsUserFrame user =
    subst IsSendable given (k.plain.sendable w (in-get (claimed settings r) _ w waits)) in
    let sec = protected-is_sec (secret_octets w.key.sak) p.sci w.key.an w.pn w.key.conf user
    (k.plain.typed p (in-get (stations r) w.station p place)).count sends.destination.0 in
    still-kept settings users x r g (emit-still settings f r) refl k k.changes k.allowed
    refl refl refl refl (λ t. refl) (only frame sec)
    (plain-same settings users x r refl (births-next x r g) (claims-next x r g) refl
    (ap (map (λ (i : Install). secret_octets i.sak)) (makes-same x r refl) ∙ k.plain.drawn
    ∙ sym (drawn-next x r)) k.plain)
  where
    only : (frame : Frame) → is_sec frame.octets ≡ true → (y : Frame) → In y (frame ∷ [])
        → IsCarried (IsTold settings (book k.changes) (happened events.Emit f ∷ r)) y.octets
    only frame sec y (inl e) = inl (ap (λ (w : Frame). is_sec w.octets) e ∙ sec)
    only frame sec y (inr i) = elim i [ ]

-- what is known stays so at an emission of octets that are the frame of the claim that waits
emit-with : (settings : Settings) (users : List UserFrame) (f : List Fact) (r : Run) (w : Waiting)
    (p : Profile) (user : UserFrame) (octets : List ℕ) → IsKnown settings users r
    → waiting settings r ≡ Some w → slice_get (stations r) w.station ≡ Some p
    → user_at users w.user ≡ Some user → frame_by w p user ≡ octets
    → facts.Framed (next_frame r) w.station true octets ∷ [] ≡ f
    → IsKnown settings users (happened events.Emit f ∷ r)
emit-with settings users f r w p user octets k waits place given same shows =
    emit-on settings users f r w p user k waits place given
    (ap (λ o. facts.Framed (next_frame r) w.station true o ∷ []) same ∙ shows)

pub emit-kept : (settings : Settings) (users : List UserFrame) (f : List Fact) (r : Run)
    → IsStep settings users (happened events.Emit f) r → IsKnown settings users r
    → IsKnown settings users (happened events.Emit f ∷ r)
unfolding expected
emit-kept settings users f r step k =
    let w = chained (emit_facts users r) (waiting settings r) f step.shows in
    let framed = mapped (λ octets. facts.Framed (next_frame r) w.0.station true octets ∷ [])
    (frame_of_claim users r w.0) f w.2 in
    let p = chained (λ p. option_map (frame_by w.0 p) (user_at users w.0.user))
    (slice_get (stations r) w.0.station) framed.0 framed.1 in
    let user = mapped (frame_by w.0 p.0) (user_at users w.0.user) framed.0 p.2 in
    emit-with settings users f r w.0 p.0 user.0 framed.0 k w.1 p.1 user.1 user.2 framed.2
