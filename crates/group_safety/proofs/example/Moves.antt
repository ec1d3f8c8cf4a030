-- Each kind of event in a scene, by what a reader computes of it.
use Rattle.std.proofs.Common.{◌≡◌, ◌≢◌, ◌<◌, ◌≤◌, ◌+◌, refl, sym, ap, ◌∙◌, subst, inl, inr}
use Rattle.std.proofs.Common.{ℕ, List, [], ◌∷◌, ◌++◌, length, true}
use Rattle.std.proofs.Common.{false, cond, Option, Some, None, is_some, Ok, arith}
use Rattle.std.proofs.Common.{length-append}
use Rattle.std.specs.Prelude.{option_map, option_and_then, slice_get, ◌==◌}
use Rattle.std.proofs.lemmas.Bool.Decides.{eqb_tells}
use Rattle.std.proofs.lemmas.Bool.{eq-eqb, ne_eqb}
use Rattle.lan_base.specs.declared.address.Mi.{Mi}
use Rattle.lan_base.specs.declared.frame.UserFrame.{UserFrame}
use Rattle.gcm_frames.specs.Tags.{is_sec}
use Rattle.mkpdu_codec.specs.declared.announcement.Announcement.{Announcement}
use Rattle.peer_lists.specs.Histories.{clock}
use Rattle.rx_slots.specs.Numbers.{answer}
use Rattle.sak_exchange.specs.declared.held_key.Key.{Key}
use Rattle.sak_exchange.specs.Held.{transmitting}
use Rattle.mka_station.specs.Lives.{Entry, peers_of}
use Rattle.mka_station.specs.Tick.{tick_turn}
use Rattle.mka_station.specs.Hearing.{judged, hear_turn, heard_turn, frame_turn}
use Rattle.lan_core.specs.declared.event.Event.TheVariants as events
use Rattle.lan_core.specs.declared.fact.Fact.{Fact}
use Rattle.lan_core.specs.declared.fact.Fact.TheVariants as facts
use Rattle.lan_core.specs.Run.{Run, Happening, happened, Profile, stations}
use Rattle.lan_core.specs.Ledgers.{Frame, air, frame_at, next_frame, installs_at}
use Rattle.lan_core.specs.Lives.{Life, life, lived, lived_hearing, lived_ticking, lived_reached}
use Rattle.lan_core.specs.Lives.{receiving, reaches, begun, drawn_mi, keys_in, setup_of, seen_at}
use Rattle.lan_core.specs.Lives.{sak_in, drawn_sak, transmitting_at}
use Rattle.lan_core.specs.Claims.{next, user_at}
use Rattle.lan_core.specs.Expected.{expected, tick_facts, reached_facts, restart_facts}
use Rattle.lan_core.specs.Expected.{reaction_facts, claim_fact, lack, last_number}
use Rattle.lan_core.specs.Order.{IsInOrder, IsShown, IsClaimable, IsSendable, IsOfSuite}
use Rattle.lan_core.specs.Types.{IsTyped, IsMi, IfDrawn}
use Rattle.lan_core.specs.Legal.{Ahead, is_excused_by}
use Rattle.lan_core.proofs.Public.{others-change-none, claims-change-none}
use Rattle.group_safety.proofs.Members.{In, in-either}
use Rattle.group_safety.proofs.once.Currents.{some-same, none-some}
use Rattle.group_safety.proofs.once.Nexts.{life-next, stations-next}
use Rattle.group_safety.proofs.once.StartKept.{begins}
use Rattle.group_safety.specs.worked.Group.{settings}
use Rattle.group_safety.specs.worked.Deeds.{framed_by}
use Rattle.group_safety.specs.worked.Lives.{seen}
use Rattle.group_safety.proofs.example.Scene.{IsSayable, sayable-unprotected}
use Rattle.group_safety.proofs.example.Scene.{sayable-judged}
use Rattle.group_safety.proofs.example.Scene.{good-short, seen-silent, IsPlainTo}
use Rattle.group_safety.proofs.example.Scene.{is_few, most_next, next-most, Lives, with_one_life}
use Rattle.group_safety.proofs.example.Scene.{Scene, goes-on}

-- the life of one station is this one, the others go on
lives-on : (users : List UserFrame) (ps : List Profile) (x : Happening) (r : Run) (ls : Lives)
    (s : ℕ) (l : Life)
    → Scene users ps r ls → life settings s (x ∷ r) ≡ Some l
    → ((t : ℕ) → s ≢ t → t < length ps → life settings t (x ∷ r) ≡ life settings t r)
    → (t : ℕ) → t < length ps → life settings t (x ∷ r) ≡ Some (with_one_life s l ls t)
lives-on users ps x r ls s l v here others t less = elim (eqb_tells s t) [
  | inl y ↦ rw y.0 (subst (λ w. life settings w (x ∷ r) ≡ Some l) y.1 here)
  | inr y ↦ rw y.0 (others t y.1 less ∙ v.living t less)
]

-- frames that come on the air are short
pub new-short : (r : Run) (x : Happening) (sent : List Frame) → air (x ∷ r) ≡ sent ++ air r
    → ((f : Frame) → In f sent → length f.octets ≤ 70000)
    → ((f : Frame) → In f (air r) → length f.octets ≤ 70000)
    → (f : Frame) → In f (air (x ∷ r)) → length f.octets ≤ 70000
new-short r x sent is new before f i = elim (in-either sent (air r) f (subst (λ w. In f w) is i)) [
  | inl j ↦ new f j
  | inr j ↦ before f j
]

-- a frame that a station puts on the air
abbrev pub sends : ℕ → ℕ → Profile → Announcement → List Frame
sends number s p a =
    record { number = number; station = s; sec = false; octets = framed_by p a } ∷ []

pub sends-short : (number s : ℕ) (p : Profile) (a : Announcement) → IsSayable a
    → (f : Frame) → In f (sends number s p a) → length f.octets ≤ 70000
sends-short number s p a good f (inl e) = subst (λ (w : Frame). length w.octets ≤ 70000) (sym e)
    (good-short p a good)
sends-short number s p a good f (inr i) = elim i [ ]

pub none-short : (f : Frame) → In f [] → length f.octets ≤ 70000
none-short f i = elim i [ ]

-- ---- a tick

-- the packet number that a tick shows: 0 where nothing transmits, else none below the next one
abbrev pub IsNextOf : ℕ → Run → Option Key → Type 0
IsNextOf next r None = next ≡ 0
IsNextOf next r (Some k) = (1 ≤ next) × (most_next r ≤ next)

shown-by : (s next : ℕ) (x : Happening) (r : Run) (o : Option Key) → IsNextOf next r o
    → IsShown settings s next x r o
shown-by s next x r None is = is
shown-by s next x r (Some k) is =
    let below = next-most s k.epoch r in let most = is.1 in (is.0, inl (omega (arith, below, most)))

-- what is computed of a tick
pub record Ticks (r : Run) (s next : ℕ) (f : List Fact) (l : Life) (p : List Entry) : Type 0 where
  pub shows : facts.Ticked s (clock (peers_of l.member l.past) + 1) next
      ∷ reaction_facts s 0 (next_frame r)
      (tick_turn l.member (seen next) (sak_in f) l.past).reaction ≡ f
  pub past : (tick_turn l.member (seen next) (sak_in f) l.past).past ≡ p

pub tick-moves : (users : List UserFrame) (ps : List Profile) (r : Run) (ls : Lives) (s next : ℕ)
    (f : List Fact)
    (p : List Entry) (sent : List Frame)
    → let x = happened (events.Tick s next) f in let l = ls s in
    Scene users ps r ls → Ticks r s next f l p → s < length ps → IsTyped x.event
    → IsNextOf next r (transmitting (keys_in l)) → IfDrawn (IsOfSuite settings) (drawn_sak f)
    → air (x ∷ r) ≡ sent ++ air r → ((f : Frame) → In f sent → length f.octets ≤ 70000)
    → is_few (x ∷ r) ≡ true
    → stations (x ∷ r) ≡ ps → ((ahead : Ahead) → is_excused_by settings r ahead f ≡ true)
    → Scene users ps (x ∷ r) (with_one_life s (record l { past = p }) ls)
unfolding expected
tick-moves users ps r ls s next f p sent v c exists typed shown drawn on_air short few there
    excused =
    goes-on users ps ps x r ls (with_one_life s l' ls) v (record {
      there = there;
      living = lives-on users ps x r ls s l' v here others;
      plain = λ t octets e. absurd (none-some e);
      short = new-short r x sent on_air short v.short;
      in_order = (typed, (subst (λ w. s < length w) (sym v.there) exists, shown', drawn));
      shows = ap (option_map (tick_facts settings s r next (sak_in f))) (v.living s exists)
          ∙ ap Some told;
      few = few;
      excused = excused;
      honest = tt;
    })
  where
    x : Happening
    x = happened (events.Tick s next) f

    l : Life
    l = ls s

    l' : Life
    l' = record l { past = p }

    sees : seen_at settings s r l next ≡ seen next
    sees = seen-silent s r l next (v.silent s)

    told : tick_facts settings s r next (sak_in f) l ≡ f
    told = ap (λ w. facts.Ticked s (clock (peers_of l.member l.past) + 1) next
        ∷ reaction_facts s 0 (next_frame r) (tick_turn l.member w (sak_in f) l.past).reaction) sees
        ∙ c.shows

    transmits : transmitting_at settings s r ≡ transmitting (keys_in l)
    transmits = ap (option_and_then (λ (w : Life). transmitting (keys_in w))) (v.living s exists)

    shown' : IsShown settings s next x r (transmitting_at settings s r)
    shown' = subst (IsShown settings s next x r) (sym transmits)
        (shown-by s next x r (transmitting (keys_in l)) shown)

    here : life settings s (x ∷ r) ≡ Some l'
    here = life-next settings s x r
        ∙ ap (λ b. cond b
        (option_map (lived_ticking settings s r next (sak_in f)) (life settings s r))
        (life settings s r)) (eq-eqb s s refl)
        ∙ ap (option_map (lived_ticking settings s r next (sak_in f))) (v.living s exists)
        ∙ ap (λ w. Some (lived l (tick_turn l.member w (sak_in f) l.past))) sees
        ∙ ap (λ w. Some (record l { past = w })) c.past

    others : (t : ℕ) → s ≢ t → t < length ps → life settings t (x ∷ r) ≡ life settings t r
    others t other less =
        others-change-none settings t x r (subst (λ w. t < length w) (sym v.there) less)
        (ne_eqb s t other)

-- ---- a delivery

pub record Hears (r : Run) (s number : ℕ) (f : List Fact) (l : Life) (a : Announcement)
    (p : List Entry) : Type 0 where
  pub shows : reaction_facts s number 0 (hear_turn l.member a l.past).reaction ≡ f
  pub past : (hear_turn l.member a l.past).past ≡ p

pub hear-moves : (users : List UserFrame) (ps : List Profile) (r : Run) (ls : Lives)
    (s number : ℕ) (f : List Fact) (a : Announcement) (p : List Entry) (q : Profile) (frame : Frame)
    → let x = happened (events.Deliver number s) f in let l = ls s in
    Scene users ps r ls → Hears r s number f l a p → IsSayable a → s < length ps → IsTyped x.event
    → frame_at r number ≡ Some frame → frame.octets ≡ framed_by q a → (own : Profile)
    → l.member.setup ≡ setup_of settings own → air (x ∷ r) ≡ air r → is_few (x ∷ r) ≡ true
    → stations (x ∷ r) ≡ ps → ((ahead : Ahead) → is_excused_by settings r ahead f ≡ true)
    → Scene users ps (x ∷ r) (with_one_life s (record l { past = p }) ls)
unfolding expected
hear-moves users ps r ls s number f a p q frame v c good exists typed at octets own set_up on_air
    few there excused =
    goes-on users ps ps x r ls (with_one_life s l' ls) v (record {
      there = there;
      living = lives-on users ps x r ls s l' v here others;
      plain = plain;
      short = λ y i. v.short y (subst (λ w. In y w) on_air i);
      in_order = (typed, (subst (λ w. s < length w) (sym v.there) exists, ap (λ o. is_some o) at));
      shows = ap (option_and_then
          (λ (y : Frame). option_map (reached_facts settings s r number y.octets)
          (life settings s r))) at
          ∙ ap (option_map (reached_facts settings s r number frame.octets)) (v.living s exists)
          ∙ ap Some told;
      few = few;
      excused = excused;
      honest = tt;
    })
  where
    x : Happening
    x = happened (events.Deliver number s) f

    l : Life
    l = ls s

    l' : Life
    l' = record l { past = p }

    not-sec : is_sec frame.octets ≡ false
    not-sec = ap is_sec octets ∙ sayable-unprotected q a good

    right : judged l.member.setup frame.octets ≡ Ok a
    right = ap (λ w. judged w frame.octets) set_up ∙ ap (judged (setup_of settings own)) octets
        ∙ sayable-judged q own a good

    told : reached_facts settings s r number frame.octets l ≡ f
    told = ap (λ b. cond b
        (facts.Arrived number s
        (answer l.member.setup.sci settings.window (receiving s r) frame.octets) ∷ [])
        (reaction_facts s number 0 (frame_turn l.member frame.octets l.past).reaction)) not-sec
        ∙ ap (λ j. reaction_facts s number 0 (heard_turn l.member j l.past).reaction) right
        ∙ c.shows

    hears : lived_hearing l frame.octets ≡ l'
    hears = ap (λ b. cond b l (lived l (frame_turn l.member frame.octets l.past))) not-sec
        ∙ ap (λ j. lived l (heard_turn l.member j l.past)) right
        ∙ ap (λ w. record l { past = w }) c.past

    reached : (t : ℕ) → s ≡ t → reaches t r (events.Deliver number s) ≡ Some frame.octets
    reached t same =
        ap (λ b. cond b (option_map (λ (y : Frame). y.octets) (frame_at r number)) None)
        (eq-eqb s t same)
        ∙ ap (option_map (λ (y : Frame). y.octets)) at

    plain : (t : ℕ) → IsPlainTo t r (events.Deliver number s)
    plain t o e = elim (eqb_tells s t) [
      | inl y ↦ subst (λ w. is_sec w ≡ false) (some-same (sym (reached t y.1) ∙ e)) not-sec
      | inr y ↦
          absurd (none-some
          (sym (ap (λ b. cond b (option_map (λ (y : Frame). y.octets) (frame_at r number)) None)
          y.0) ∙ e))
    ]

    here : life settings s (x ∷ r) ≡ Some l'
    here = life-next settings s x r
        ∙ ap (λ o. lived_reached (life settings s r) o) (reached s refl)
        ∙ ap (option_map (λ w. lived_hearing w frame.octets)) (v.living s exists) ∙ ap Some hears

    others : (t : ℕ) → s ≢ t → t < length ps → life settings t (x ∷ r) ≡ life settings t r
    others t other less =
        others-change-none settings t x r (subst (λ w. t < length w) (sym v.there) less)
        (ne_eqb s t other)

-- ---- a claim

pub claim-moves : (users : List UserFrame) (ps : List Profile) (r : Run) (ls : Lives)
    (s user pn : ℕ) (k : Key) (f : List Fact)
    → let x = happened (events.Claim s user pn) f in
    Scene users ps r ls → facts.Claimed s k.an k.epoch pn ∷ [] ≡ f → s < length ps → IsTyped x.event
    → transmitting (keys_in (ls s)) ≡ Some k → (pn == 0) ≡ false → most_next r ≤ pn
    → pn ≤ last_number
    → IsSendable (user_at users user) → air (x ∷ r) ≡ air r → is_few (x ∷ r) ≡ true
    → stations (x ∷ r) ≡ ps
    → ((ahead : Ahead) → is_excused_by settings r ahead f ≡ true)
    → Scene users ps (x ∷ r) ls
unfolding expected
claim-moves users ps r ls s user pn k f v shows exists typed sends_now some least most sendable
    on_air few there excused =
    goes-on users ps ps x r ls ls v (record {
      there = there;
      living = λ t less. claims-change-none settings t s user pn f r ∙ v.living t less;
      plain = λ t octets e. absurd (none-some e);
      short = λ y i. v.short y (subst (λ w. In y w) on_air i);
      in_order =
          (typed, (subst (λ w. s < length w) (sym v.there) exists, sendable, inr claimable));
      shows = ap (option_map (λ l. claim_fact settings s r pn (transmitting_at settings s r) ∷ []))
          (v.living s exists)
          ∙ ap (λ o. Some (claim_fact settings s r pn o ∷ [])) transmits
          ∙ ap (λ b. Some
          (cond b (facts.Unclaimed s (lack settings s r (Some k)))
          (facts.Claimed s k.an k.epoch pn) ∷ [])) some
          ∙ ap Some shows;
      few = few;
      excused = excused;
      honest = tt;
    })
  where
    x : Happening
    x = happened (events.Claim s user pn) f

    transmits : transmitting_at settings s r ≡ Some k
    transmits = ap (option_and_then (λ (w : Life). transmitting (keys_in w))) (v.living s exists)
        ∙ sends_now

    claimable : IsClaimable settings s r pn (transmitting_at settings s r)
    claimable =
        let below = next-most s k.epoch r in
        subst (IsClaimable settings s r pn) (sym transmits) (omega (arith, below, least), most)

-- ---- a station starts, and starts again

pub start-moves : (users : List UserFrame) (ps : List Profile) (r : Run) (ls : Lives) (q : Profile)
    (mi : Mi) (base : ℕ)
    → let x = happened (events.Start q.name q.sci q.priority) (facts.Life (length ps) mi ∷ []) in
    Scene users ps r ls → IsInOrder settings users r x → base ≡ length (installs_at (length ps) r)
    → air (x ∷ r) ≡ air r → is_few (x ∷ r) ≡ true
    → Scene users (ps ++ q ∷ []) (x ∷ r) (with_one_life (length ps) (begins settings q mi base) ls)
unfolding expected
start-moves users ps r ls q mi base v in_order based on_air few =
    goes-on users ps (ps ++ q ∷ []) x r ls (with_one_life s l' ls) v (record {
      there = stations-next x r ∙ ap (λ w. w ++ q ∷ []) v.there;
      living = living;
      plain = λ t octets e. absurd (none-some e);
      short = λ y i. v.short y (subst (λ w. In y w) on_air i);
      in_order = in_order;
      shows = ap (λ w. Some (facts.Life (length w) mi ∷ [])) v.there;
      few = few;
      excused = λ ahead. refl;
      honest = tt;
    })
  where
    s : ℕ
    s = length ps

    x : Happening
    x = happened (events.Start q.name q.sci q.priority) (facts.Life s mi ∷ [])

    l' : Life
    l' = begins settings q mi base

    here : life settings s (x ∷ r) ≡ Some l'
    here = life-next settings s x r
        ∙ ap (λ b. cond b (Some (begins settings q mi (length (installs_at s r))))
        (life settings s r)) (eq-eqb (length (stations r)) s (ap length v.there))
        ∙ ap (λ n. Some (begins settings q mi n)) (sym based)

    living : (t : ℕ) → t < length (ps ++ q ∷ [])
        → life settings t (x ∷ r) ≡ Some (with_one_life s l' ls t)
    living t less = elim (eqb_tells s t) [
      | inl y ↦ rw y.0 (subst (λ w. life settings w (x ∷ r) ≡ Some l') y.1 here)
      | inr y ↦
          let count = length-append ps (q ∷ []) in
          let other = y.1 in
          let before : t < length ps = omega (arith, less, count, other) in
          rw y.0 (others-change-none settings t x r (subst (λ w. t < length w) (sym v.there) before)
          refl ∙ v.living t before)
    ]

pub restart-moves : (users : List UserFrame) (ps : List Profile) (r : Run) (ls : Lives) (s : ℕ)
    (q : Profile) (mi : Mi) (base : ℕ) (f : List Fact)
    → let x = happened (events.Restart s) f in
    Scene users ps r ls → s < length ps → IsTyped x.event → slice_get ps s ≡ Some q
    → drawn_mi f ≡ Some mi → IsMi mi
    → restart_facts s mi (ls s) ≡ f → base ≡ length (installs_at s r) → air (x ∷ r) ≡ air r
    → is_few (x ∷ r) ≡ true
    → stations (x ∷ r) ≡ ps → ((ahead : Ahead) → is_excused_by settings r ahead f ≡ true)
    → Scene users ps (x ∷ r) (with_one_life s (begins settings q mi base) ls)
unfolding expected
restart-moves users ps r ls s q mi base f v exists typed place drawn is_mi shows based on_air few
    there excused =
    goes-on users ps ps x r ls (with_one_life s l' ls) v (record {
      there = there;
      living = lives-on users ps x r ls s l' v here others;
      plain = λ t octets e. absurd (none-some e);
      short = λ y i. v.short y (subst (λ w. In y w) on_air i);
      in_order = (
        typed,
        (
          subst (λ w. s < length w) (sym v.there) exists,
          subst (IfDrawn IsMi) (sym drawn)
              is_mi,
        ),
      );
      shows = ap (option_and_then (λ m. option_map (restart_facts s m) (life settings s r))) drawn
          ∙ ap (option_map (restart_facts s mi)) (v.living s exists) ∙ ap Some shows;
      few = few;
      excused = excused;
      honest = tt;
    })
  where
    x : Happening
    x = happened (events.Restart s) f

    l' : Life
    l' = begins settings q mi base

    here : life settings s (x ∷ r) ≡ Some l'
    here = life-next settings s x r
        ∙ ap (λ b. cond b (option_and_then (begun settings s r f) (slice_get (stations r) s))
        (life settings s r)) (eq-eqb s s refl)
        ∙ ap (λ w. option_and_then (begun settings s r f) (slice_get w s)) v.there
        ∙ ap (option_and_then (begun settings s r f)) place
        ∙ ap (option_map (λ m. begins settings q m (length (installs_at s r)))) drawn
        ∙ ap (λ n. Some (begins settings q mi n)) (sym based)

    others : (t : ℕ) → s ≢ t → t < length ps → life settings t (x ∷ r) ≡ life settings t r
    others t other less =
        others-change-none settings t x r (subst (λ w. t < length w) (sym v.there) less)
        (ne_eqb s t other)
