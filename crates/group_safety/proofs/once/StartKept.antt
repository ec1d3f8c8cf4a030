-- A start keeps a run known, and so does a start again.
use Rattle.std.proofs.Common.{◌≡◌, ◌≢◌, ◌<◌, ◌+◌, refl, sym, ap, ◌∙◌, subst, inl, inr, ℕ}
use Rattle.std.proofs.Common.{List, [], ◌∷◌, ◌++◌, length, map}
use Rattle.std.proofs.Common.{Some, None, arith}
use Rattle.std.specs.Prelude.{option_map, option_and_then, slice_get}
use Rattle.std.proofs.lemmas.List.{append-nil, length-append, map-append}
use Rattle.std.proofs.lemmas.List.Elements.{All-contains}
use Rattle.lan_base.specs.declared.address.Mi.{Mi}
use Rattle.lan_base.specs.declared.address.Sci.{Sci}
use Rattle.lan_base.specs.declared.frame.UserFrame.{UserFrame}
use Rattle.lan_base.specs.declared.name.Name.{Name}
use Rattle.aes_block.specs.Secrets.{secret_octets}
use Rattle.gcm_frames.specs.Protected.{IsSci}
use Rattle.sak_exchange.specs.Held.{received, held}
use Rattle.mka_station.specs.Lives.{Member, Entry, peers_of, keys_of}
use Rattle.mka_station.specs.Views.{view}
use Rattle.mka_station.specs.Restart.{ending}
use Rattle.lan_core.specs.declared.event.Event.TheVariants as events
use Rattle.lan_core.specs.declared.fact.Fact.{Fact}
use Rattle.lan_core.specs.declared.fact.Fact.TheVariants as facts
use Rattle.lan_core.specs.declared.settings.Settings.{Settings}
use Rattle.lan_core.specs.Run.{Run, Happening, happened, Profile, stations}
use Rattle.lan_core.specs.Ledgers.{Birth, births, Install, installs_at}
use Rattle.lan_core.specs.Lives.{Life, life, begun, drawn_mi, setup_of}
use Rattle.lan_core.specs.Claims.{claimed}
use Rattle.lan_core.specs.Expected.{expected, reaction_facts, restart_facts}
use Rattle.lan_core.specs.Order.{ticks}
use Rattle.lan_core.specs.Types.{IsMi, IfDrawn}
use Rattle.lan_core.specs.Legal.{IsStep}
use Rattle.lan_base.specs.Differing.{DiffersFrom, AllDiffer}
use Rattle.group_safety.specs.Once.{shown_made}
use Rattle.group_safety.proofs.Members.{In, in-contains, in-from_map, in-either}
use Rattle.group_safety.proofs.once.Ledgers.{newborn, with_life}
use Rattle.group_safety.proofs.once.Ledgers.{was_born, book}
use Rattle.group_safety.proofs.once.Currents.{some-same}
use Rattle.group_safety.proofs.once.Histories.{deeds, deeds-none}
use Rattle.group_safety.proofs.once.KeysSound.{sound-none}
use Rattle.group_safety.proofs.once.Carried.{carried-more}
use Rattle.group_safety.proofs.once.Origins.{said-later}
use Rattle.group_safety.proofs.once.Gists.{IsGist, IsQuiet, drops-quiet, reaction-is}
use Rattle.group_safety.proofs.once.Nexts.{makes-same, births-next, installs-next, air-next}
use Rattle.group_safety.proofs.once.Nexts.{claims-next}
use Rattle.group_safety.proofs.once.Nexts.{drawn-next, stations-next, claimed-next}
use Rattle.group_safety.proofs.once.Nexts.{life-next, get-last, get-there, get-less}
use Rattle.group_safety.proofs.once.Nexts.{at-or-other, mapped, chained}
use Rattle.group_safety.proofs.once.Books.{with-this, with-other}
use Rattle.group_safety.proofs.once.Living.{IsTold, IsLiving, IsPlain}
use Rattle.group_safety.proofs.once.Living.{IsKnown, living-later}
use Rattle.group_safety.proofs.once.Stepping.{next-more, IsLifeOf}

-- ---- lists

differs-last : {X : Type 0} (x : X) (xs : List X) (y : X) → DiffersFrom x xs → x ≢ y
    → DiffersFrom x (xs ++ y ∷ [])
differs-last x [] y d other = (other, tt)
differs-last x (z ∷ zs) y d other = (d.0, differs-last x zs y d.1 other)

differ-last : {X : Type 0} (xs : List X) (y : X) → AllDiffer xs → ((x : X) → In x xs → x ≢ y)
    → AllDiffer (xs ++ y ∷ [])
differ-last [] y d new = (tt, tt)
differ-last (x ∷ xs) y d new =
    (differs-last x xs y d.0 (new x (inl refl)), differ-last xs y d.1 (λ z i. new z (inr i)))

-- ---- a life begins

-- a life that has no history yet
abbrev pub begins : Settings → Profile → Mi → ℕ → Life
begins settings p mi base =
    record { member = record { setup = setup_of settings p; mi = mi; base = base }; past = [] }

begun-living : (settings : Settings) (r : Run) (s : ℕ) (p : Profile) (mi : Mi) (base : ℕ)
    → slice_get (stations r) s ≡ Some p → length mi.0 ≡ 12
    → IsLiving settings r s (begins settings p mi base)
unfolding keys_of peers_of
begun-living settings r s p mi base place long = record {
  profile = p;
  place = place;
  setup = refl;
  mi = long;
  keys = sound-none base mi (ticks r);
  sent = omega arith;
  heard = λ a i. elim i [ ];
  origins = λ a i. elim i [ ];
  backed = λ k i. elim i [ ];
}

-- an event that begins a life, and does nothing else
pub record Begins (settings : Settings) (x : Happening) (r : Run) (s : ℕ) (p : Profile) (mi : Mi)
    (base : ℕ) : Type 0 where
  pub gist : IsGist x.facts (record { station = s; mi = mi } ∷ []) [] [] []
  pub lives : IsLifeOf settings x r s (begins settings p mi base)
  pub place : slice_get (stations (x ∷ r)) s ≡ Some p
  pub long : length mi.0 ≡ 12
  pub no_tick : shown_made x.facts x.event ≡ []

begin-kept : (settings : Settings) (users : List UserFrame) (x : Happening) (r : Run) (s : ℕ)
    (p : Profile) (mi : Mi) (base : ℕ)
    → Begins settings x r s p mi base → IsPlain settings users (x ∷ r) → IsKnown settings users r
    → IsKnown settings users (x ∷ r)
begin-kept settings users x r s p mi base c plain' k = record {
  changes = was_born s mi ∷ k.changes;
  allowed = (tt, k.allowed);
  shows = record {
    births = ap (λ w. record { station = s; mi = mi } ∷ w) k.shows.births
        ∙ sym (births-next x r c.gist);
    installs = k.shows.installs ∙ sym (installs-next x r c.gist);
    makes = k.shows.makes ∙ sym (makes-same x r c.no_tick);
    claims = k.shows.claims ∙ sym (claims-next x r c.gist);
    air = λ y i.
        carried-more (IsTold settings (book k.changes) r)
        (IsTold settings (book (was_born s mi ∷ k.changes)) (x ∷ r)) y.octets
        (λ a told. record { said = told.said; origin = said-later settings x r a told.origin })
        (k.shows.air y (subst (λ w. In y w) (air-next x r c.gist) i));
    lives = λ t n e. elim (c.lives t n e) [
      | inl here ↦
          subst (λ w. with_life s (newborn mi) (book k.changes).life w ≡ Some (deeds n)) here.0
          (with-this s (newborn mi) (book k.changes).life
          ∙ ap Some
          (sym (deeds-none (record { setup = setup_of settings p; mi = mi; base = base })))
          ∙ ap (λ w. Some (deeds w)) here.1)
      | inr there ↦ with-other s t (newborn mi) (book k.changes).life there.0
          ∙ k.shows.lives t n there.1
    ];
  };
  living = λ t n e. elim (c.lives t n e) [
    | inl here ↦ subst (λ w. IsLiving settings (x ∷ r) w n) here.0
        (subst (IsLiving settings (x ∷ r) s) here.1
        (begun-living settings (x ∷ r) s p mi base c.place c.long))
    | inr there ↦ living-later settings x r t n c.gist (k.living t n there.1)
  ];
  plain = plain';
}

drawn-long : (f : List Fact) (mi : Mi) → drawn_mi f ≡ Some mi → IfDrawn IsMi (drawn_mi f)
    → length mi.0 ≡ 12
drawn-long f mi e is = let this : IsMi mi = subst (IfDrawn IsMi) e is in this.0

-- a life begins at a station, by what was drawn
begun-lives : (settings : Settings) (f : List Fact) (r : Run) (s : ℕ) (p : Profile) (mi : Mi)
    → drawn_mi f ≡ Some mi
    → (t : ℕ) (n : Life) → s ≡ t → begun settings t r f p ≡ Some n
    → begins settings p mi (length (installs_at s r)) ≡ n
begun-lives settings f r s p mi drawn t n here e =
    let now : begun settings t r f p ≡ Some (begins settings p mi (length (installs_at t r))) =
    ap (option_map (λ (mi : Mi). begins settings p mi (length (installs_at t r)))) drawn in
    ap (λ w. begins settings p mi (length (installs_at w r))) here ∙ some-same (sym now ∙ e)

life-fact : (s : ℕ) (mi : Mi)
    → IsGist (facts.Life s mi ∷ []) (record { station = s; mi = mi } ∷ []) [] [] []
life-fact s mi =
    record { births = λ xs. refl; installs = λ xs. refl; air = λ xs. refl; claims = λ xs. refl }

start-on : (settings : Settings) (users : List UserFrame) (name : Name) (sci : Sci) (priority : ℕ)
    (f : List Fact) (r : Run) (mi : Mi)
    → IsStep settings users (happened (events.Start name sci priority) f) r
    → IsKnown settings users r
    → drawn_mi f ≡ Some mi → facts.Life (length (stations r)) mi ∷ [] ≡ f
    → IsKnown settings users (happened (events.Start name sci priority) f ∷ r)
start-on settings users name sci priority f r mi step k drawn shows =
    begin-kept settings users x r s p mi (length (installs_at s r)) (record {
      gist = g;
      lives = λ t n e.
          elim (at-or-other s t (begun settings t r f p) (life settings t r) (Some n)
          (sym (life-next settings t x r) ∙ e)) [
            | inl here ↦ inl (here.0, begun-lives settings f r s p mi drawn t n here.0 here.1)
            | inr there ↦ inr there
          ];
      place = subst (λ w. slice_get w s ≡ Some p) (sym (stations-next x r))
          (get-last (stations r) p);
      long = drawn-long f mi drawn step.in_order.1.1;
      no_tick = refl;
    }) plain' k
  where
    x : Happening
    x = happened (events.Start name sci priority) f

    s : ℕ
    s = length (stations r)

    p : Profile
    p = record { name = name; sci = sci; priority = priority }

    g : IsGist f (record { station = s; mi = mi } ∷ []) [] [] []
    g = subst (λ w. IsGist w (record { station = s; mi = mi } ∷ []) [] [] []) shows (life-fact s mi)

    waits : claimed settings (x ∷ r) ≡ claimed settings r
    waits = claimed-next settings x r ∙ append-nil (claimed settings r)

    count : length (stations r ++ p ∷ []) ≡ length (stations r) + 1
    count = length-append (stations r) (p ∷ [])

    here-placed : (b : Birth) → In b (record { station = s; mi = mi } ∷ births r)
        → b.station < length (stations r ++ p ∷ [])
    here-placed b (inl e) = let same : b.station ≡ s = ap (λ (w : Birth). w.station) e in
        omega (arith, same, count)
    here-placed b (inr i) = let less = k.plain.placed b i in omega (arith, less, count)

    here-typed : (q : Profile) → In q (p ∷ []) → IsSci q.sci
    here-typed q (inl e) = subst (λ (w : Profile). IsSci w.sci) (sym e) step.in_order.0.1
    here-typed q (inr i) = elim i [ ]

    new-sci : (c : Sci) → In c (map (λ q. q.sci) (stations r)) → c ≢ sci
    new-sci c i same =
        let q = in-from_map (λ (q : Profile). q.sci) (stations r) c i in
        (All-contains (λ (q : Profile). (q.name ≢ name) × (q.sci ≢ sci)) (stations r) q.0
        step.in_order.1.0 (in-contains (stations r) q.0 q.1)).1 (sym q.2 ∙ same)

    plain' : IsPlain settings users (x ∷ r)
    plain' = record {
      typed = λ q i.
          elim (in-either (stations r) (p ∷ []) q (subst (λ w. In q w) (stations-next x r) i)) [
            | inl older ↦ k.plain.typed q older
            | inr new ↦ here-typed q new
          ];
      apart = subst (λ w. AllDiffer (map (λ (q : Profile). q.sci) w)) (sym (stations-next x r))
          (subst AllDiffer (sym (map-append (λ (q : Profile). q.sci) (stations r) (p ∷ [])))
          (differ-last (map (λ (q : Profile). q.sci) (stations r)) sci k.plain.apart new-sci));
      placed = λ b i. subst (λ w. b.station < length w) (sym (stations-next x r))
          (here-placed b (subst (λ w. In b w) (births-next x r g) i));
      drawn = ap (map (λ (i : Install). secret_octets i.sak)) (makes-same x r refl) ∙ k.plain.drawn
          ∙ sym (drawn-next x r);
      sendable = λ w i. k.plain.sendable w (subst (λ ws. In w ws) waits i);
      below = λ c i. next-more settings x r c
          (k.plain.below c (subst (λ cs. In c cs) (claims-next x r g) i));
    }

pub start-kept : (settings : Settings) (users : List UserFrame) (name : Name) (sci : Sci)
    (priority : ℕ) (f : List Fact) (r : Run)
    → IsStep settings users (happened (events.Start name sci priority) f) r
    → IsKnown settings users r
    → IsKnown settings users (happened (events.Start name sci priority) f ∷ r)
unfolding expected
start-kept settings users name sci priority f r step k =
    let found = mapped (λ mi. facts.Life (length (stations r)) mi ∷ []) (drawn_mi f) f step.shows in
    start-on settings users name sci priority f r found.0 step k found.1 found.2

-- ---- a station starts again

pub ending-quiet : (s : ℕ) (m : Member) (p : List Entry)
    → IsQuiet (reaction_facts s 0 0 (ending m p))
unfolding ending
ending-quiet s m p =
    reaction-is s 0 0 (ending m p) None
    (drops-quiet s (held (view m p).keys) (received (view m p).keys))

restart-on : (settings : Settings) (users : List UserFrame) (s : ℕ) (f : List Fact) (r : Run)
    (mi : Mi) (l : Life)
    → IsStep settings users (happened (events.Restart s) f) r → IsKnown settings users r
    → drawn_mi f ≡ Some mi → restart_facts s mi l ≡ f
    → IsKnown settings users (happened (events.Restart s) f ∷ r)
restart-on settings users s f r mi l step k drawn shows =
    begin-kept settings users x r s p mi (length (installs_at s r)) (record {
      gist = g;
      lives = λ t n e.
          elim (at-or-other s t (option_and_then (begun settings t r f) (slice_get (stations r) t))
          (life settings t r) (Some n) (sym (life-next settings t x r) ∙ e)) [
            | inl here ↦
                let at : slice_get (stations r) t ≡ Some p =
                ap (slice_get (stations r)) (sym here.0)
                ∙ place in
                inl (
                  here.0,
                  begun-lives settings f r s p mi drawn t n here.0
                      (sym (ap (option_and_then (begun settings t r f)) at) ∙ here.1),
                )
            | inr there ↦ inr there
          ];
      place = subst (λ w. slice_get w s ≡ Some p) (sym stays) place;
      long = drawn-long f mi drawn step.in_order.1.1;
      no_tick = refl;
    }) plain' k
  where
    x : Happening
    x = happened (events.Restart s) f

    found : (p : Profile) × (slice_get (stations r) s ≡ Some p)
    found = get-there (stations r) s step.in_order.1.0

    p : Profile
    p = found.0

    place : slice_get (stations r) s ≡ Some p
    place = found.1

    g : IsGist f (record { station = s; mi = mi } ∷ []) [] [] []
    g = subst (λ w. IsGist w (record { station = s; mi = mi } ∷ []) [] [] []) shows
        (all (ending-quiet s l.member l.past))
      where
        all : IsQuiet (reaction_facts s 0 0 (ending l.member l.past))
            → IsGist (restart_facts s mi l) (record { station = s; mi = mi } ∷ []) [] [] []
        all q = record {
          births = λ xs. q.births (record { station = s; mi = mi } ∷ xs);
          installs = q.installs;
          air = q.air;
          claims = q.claims;
        }

    stays : stations (x ∷ r) ≡ stations r
    stays = stations-next x r ∙ append-nil (stations r)

    waits : claimed settings (x ∷ r) ≡ claimed settings r
    waits = claimed-next settings x r ∙ append-nil (claimed settings r)

    here-placed : (b : Birth) → In b (record { station = s; mi = mi } ∷ births r)
        → b.station < length (stations r)
    here-placed b (inl e) =
        let same : b.station ≡ s = ap (λ (w : Birth). w.station) e in
        let less = get-less (stations r) s p place in omega (arith, same, less)
    here-placed b (inr i) = k.plain.placed b i

    plain' : IsPlain settings users (x ∷ r)
    plain' = record {
      typed = λ q i. k.plain.typed q (subst (λ w. In q w) stays i);
      apart = rw stays k.plain.apart;
      placed = λ b i. rw stays (here-placed b (subst (λ w. In b w) (births-next x r g) i));
      drawn = ap (map (λ (i : Install). secret_octets i.sak)) (makes-same x r refl) ∙ k.plain.drawn
          ∙ sym (drawn-next x r);
      sendable = λ w i. k.plain.sendable w (subst (λ ws. In w ws) waits i);
      below = λ c i. next-more settings x r c
          (k.plain.below c (subst (λ cs. In c cs) (claims-next x r g) i));
    }

pub restart-kept : (settings : Settings) (users : List UserFrame) (s : ℕ) (f : List Fact) (r : Run)
    → IsStep settings users (happened (events.Restart s) f) r → IsKnown settings users r
    → IsKnown settings users (happened (events.Restart s) f ∷ r)
unfolding expected
restart-kept settings users s f r step k =
    let drawn = chained (λ mi. option_map (restart_facts s mi) (life settings s r)) (drawn_mi f) f
    step.shows in
    let found = mapped (restart_facts s drawn.0) (life settings s r) f drawn.2 in
    restart-on settings users s f r drawn.0 found.0 step k drawn.1 found.2
