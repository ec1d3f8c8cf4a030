-- Along a run, what its facts tell of the key under a number is what its station holds there.
use Rattle.std.proofs.Common.{◌≡◌, ◌∙◌, ℕ, true, false, List, [], ◌∷◌, ◌++◌, map, length, Option, Some, None, refl, sym, ap, subst}
use Rattle.std.proofs.lemmas.Bool.{eqb-true, eq-eqb}
use Rattle.std.specs.Prelude.{◌==◌, nat_eq, option_map, option_and_then, option_to_list, slice_get}
use Rattle.std.specs.List.{filter}
use Rattle.lan_base.specs.declared.address.Mi.{Mi}
use Rattle.lan_base.specs.declared.association_number.AssociationNumber.{AssociationNumber}
use Rattle.lan_base.specs.declared.frame.UserFrame.{UserFrame}
use Rattle.lan_base.specs.declared.name.Name.{Name}
use Rattle.lan_base.specs.declared.address.Sci.{Sci}
use Rattle.gcm_frames.specs.Tags.{is_sec}
use Rattle.sak_exchange.specs.declared.change.Change.{Change}
use Rattle.sak_exchange.specs.declared.change.Change.TheVariants as changes
use Rattle.sak_exchange.specs.declared.held_key.Key.{Key}
use Rattle.sak_exchange.specs.Held.{KeepsRules, latest, old}
use Rattle.sak_exchange.proofs.Public.{by_test, by_option}
use Rattle.mka_station.specs.declared.reaction.Reaction.{Reaction}
use Rattle.mka_station.specs.declared.verdict.Verdict.{Verdict}
use Rattle.mka_station.specs.Lives.{Member, keys_of}
use Rattle.mka_station.specs.Tick.{Turn, tick_turn}
use Rattle.mka_station.specs.Hearing.{frame_turn, hear_turn}
use Rattle.mka_station.specs.Restart.{ending}
use Rattle.lan_core.specs.declared.event.Event.TheVariants as events
use Rattle.lan_core.specs.declared.fact.Fact.{Fact}
use Rattle.lan_core.specs.declared.fact.Fact.TheVariants as facts
use Rattle.lan_core.specs.declared.settings.Settings.{Settings}
use Rattle.lan_core.specs.Run.{Run, Happening, Profile, stations, facts_of}
use Rattle.lan_core.specs.Ledgers.{next_frame}
use Rattle.lan_core.specs.Lives.{Life, life, begun, keys_in, lived, lived_hearing, seen_at, sak_in, turn_at_tick, transmitting_at, drawn_mi}
use Rattle.lan_core.specs.Claims.{frame_of_claim, Waiting}
use Rattle.lan_core.specs.Expected.{change_fact, reaction_facts, reached_facts, claim_fact, number_fact, emit_facts}
use Rattle.lan_core.specs.Keys.{held_at}
use Rattle.lan_core.specs.Legal.{IsStepped}
use Rattle.lan_core.proofs.Public.{mapped}
use Rattle.group_safety.proofs.Public.{Kind, kind, IsReached, Part, part, life-ticked, kept-turn, tick-is_turn, hear-is_turn}
use Rattle.group_safety.proofs.Public as kinds
use Rattle.key_spans.specs.Held.{named, under, TellOf}
use Rattle.key_spans.proofs.Telling.{Tell, told_after, told_by, told-append, names-told, name_of, sends}
use Rattle.key_spans.proofs.Holding.{told_in, told_change, told_all, held-told, transmits-told}
use Rattle.key_spans.proofs.Turns.{tick-goes, frame-goes, end-told}

keys-new : (m : Member) → keys_of m [] ≡ []
unfolding keys_of
keys-new m = refl

-- what is told of a life, and of none
abbrev told_of_life : AssociationNumber → Option Life → Option Tell
told_of_life an None = None
told_of_life an (Some l) = told_in an (keys_in l)

none-told : (an : AssociationNumber) → told_in an [] ≡ None
unfolding latest old
none-told an = refl

new-told : (an : AssociationNumber) (m : Member) → told_in an (keys_of m []) ≡ None
new-told an m = ap (told_in an) (keys-new m) ∙ none-told an

begun-told : (settings : Settings) (s : ℕ) (r : Run) (f : List Fact) (p : Profile) (an : AssociationNumber)
    → told_of_life an (begun settings s r f p) ≡ None
begun-told settings s r f p an =
    by_option (drawn_mi f) (λ none. rw none refl) (λ mi some. rw some (new-told an _))

-- ---- facts as changes

module _ (t : ℕ) (an : AssociationNumber) where
  change-own : (c : Change) (o : Option Tell) → told_after t an (change_fact t c) o ≡ told_change an c o
  change-own (changes.Dropped k) o = let y : nat_eq t t ≡ true = eq-eqb t t refl in rw y refl
  change-own (changes.Retired k) o = let y : nat_eq t t ≡ true = eq-eqb t t refl in rw y refl
  change-own (changes.Began k cause) o = let y : nat_eq t t ≡ true = eq-eqb t t refl in rw y refl
  change-own (changes.Installed k) o = let y : nat_eq t t ≡ true = eq-eqb t t refl in rw y refl
  change-own (changes.Untaken id why) o = refl

  change-other : (u : ℕ) (c : Change) (o : Option Tell) → (u == t) ≡ false → told_after t an (change_fact u c) o ≡ o
  change-other u (changes.Dropped k) o apart = rw apart refl
  change-other u (changes.Retired k) o apart = rw apart refl
  change-other u (changes.Began k cause) o apart = rw apart refl
  change-other u (changes.Installed k) o apart = rw apart refl
  change-other u (changes.Untaken id why) o apart = refl

  life-own : (s : ℕ) (mi : Mi) (later : List Fact) (o : Option Tell) → (s == t) ≡ true
      → told_by t an (facts.Life s mi ∷ later) o ≡ told_by t an later None
  life-own s mi later o y = ap (told_by t an later) none
    where
      none : told_after t an (facts.Life s mi) o ≡ None
      none = rw y refl

  life-other : (s : ℕ) (mi : Mi) (later : List Fact) (o : Option Tell) → (s == t) ≡ false
      → told_by t an (facts.Life s mi ∷ later) o ≡ told_by t an later o
  life-other s mi later o y = ap (told_by t an later) still
    where
      still : told_after t an (facts.Life s mi) o ≡ o
      still = rw y refl

  changes-own : (cs : List Change) (o : Option Tell) → told_by t an (map (change_fact t) cs) o ≡ told_all an cs o
  changes-own [] o = refl
  changes-own (c ∷ cs) o =
      ap (told_by t an (map (change_fact t) cs)) (change-own c o) ∙ changes-own cs (told_change an c o)

  changes-other : (u : ℕ) (cs : List Change) (o : Option Tell) → (u == t) ≡ false
      → told_by t an (map (change_fact u) cs) o ≡ o
  changes-other u [] o apart = refl
  changes-other u (c ∷ cs) o apart =
      ap (told_by t an (map (change_fact u) cs)) (change-other u c o apart) ∙ changes-other u cs o apart

  by-verdict : (u h : ℕ) (v : Option Verdict) (o : Option Tell)
      → told_by t an (option_to_list (option_map (λ v. facts.HeardMka h u v) v)) o ≡ o
  by-verdict u h None o = refl
  by-verdict u h (Some v) o = refl

  by-server : (u : ℕ) (m : Option (Option Mi)) (o : Option Tell)
      → told_by t an (option_to_list (option_map (λ m. facts.Server u m) m)) o ≡ o
  by-server u None o = refl
  by-server u (Some m) o = refl

  by-sent : (u n : ℕ) (octets : Option (List ℕ)) (o : Option Tell)
      → told_by t an (option_to_list (option_map (λ octets. facts.Framed n u false octets) octets)) o ≡ o
  by-sent u n None o = refl
  by-sent u n (Some octets) o = refl

  reaction-told : (u h n : ℕ) (re : Reaction) (o : Option Tell)
      → told_by t an (reaction_facts u h n re) o ≡ told_by t an (map (change_fact u) re.changes) o
  reaction-told u h n re o =
      told-append t an first (second ++ (third ++ last)) o
      ∙ (ap (told_by t an (second ++ (third ++ last))) (by-verdict u h re.heard o)
      ∙ (told-append t an second (third ++ last) o
      ∙ (ap (told_by t an (third ++ last)) (by-server u re.server o)
      ∙ (told-append t an third last o ∙ by-sent u n re.sent (told_by t an third o)))))
    where
      first : List Fact
      first = option_to_list (option_map (λ v. facts.HeardMka h u v) re.heard)

      second : List Fact
      second = option_to_list (option_map (λ m. facts.Server u m) re.server)

      third : List Fact
      third = map (change_fact u) re.changes

      last : List Fact
      last = option_to_list (option_map (λ octets. facts.Framed n u false octets) re.sent)

  claim-told : (settings : Settings) (s pn : ℕ) (r : Run) (k : Option Key) (o : Option Tell)
      → told_by t an (claim_fact settings s r pn k ∷ []) o ≡ o
  claim-told settings s pn r k o = by_test (pn == 0) (λ y. rw y refl) (λ y. rw y (go k))
    where
      go : (k : Option Key) → told_by t an (number_fact s pn k ∷ []) o ≡ o
      go None = refl
      go (Some j) = refl

  emit-told : (users : List UserFrame) (r : Run) (w : Waiting) (shown : List Fact) (o : Option Tell)
      → emit_facts users r w ≡ Some shown → told_by t an shown o ≡ o
  emit-told users r w shown o is =
      let m = mapped (λ octets. facts.Framed (next_frame r) w.station true octets ∷ []) (frame_of_claim users r w) shown is in
      ap (λ f. told_by t an f o) (sym m.2)

  others-reached : (settings : Settings) (s : ℕ) (r : Run) (number : ℕ) (octets : List ℕ) (l : Life)
      (o : Option Tell) → (s == t) ≡ false → told_by t an (reached_facts settings s r number octets l) o ≡ o
  others-reached settings s r number octets l o apart =
      by_test (is_sec octets) (λ sec. rw sec refl)
      (λ sec. rw sec (reaction-told s number 0 (frame_turn l.member octets l.past).reaction o
      ∙ changes-other s (frame_turn l.member octets l.past).reaction.changes o apart))

-- ---- lives

module _ (settings : Settings) (t : ℕ) (x : Happening) (r : Run) where
  own-start : (name : Name) (sci : Sci) (priority : ℕ) → x.event ≡ events.Start name sci priority
      → (length (stations r) == t) ≡ true
      → life settings t (x ∷ r) ≡ begun settings t r x.facts (record { name = name; sci = sci; priority = priority })
  unfolding life
  own-start name sci priority ev here = rw ev (rw here refl)

  other-start : (name : Name) (sci : Sci) (priority : ℕ) → x.event ≡ events.Start name sci priority
      → (length (stations r) == t) ≡ false → life settings t (x ∷ r) ≡ life settings t r
  unfolding life
  other-start name sci priority ev apart = rw ev (rw apart refl)

  other-tick : (s next : ℕ) → x.event ≡ events.Tick s next → (s == t) ≡ false
      → life settings t (x ∷ r) ≡ life settings t r
  unfolding life
  other-tick s next ev apart = rw ev (rw apart refl)

  other-restart : (s : ℕ) → x.event ≡ events.Restart s → (s == t) ≡ false
      → life settings t (x ∷ r) ≡ life settings t r
  unfolding life
  other-restart s ev apart = rw ev (rw apart refl)

  own-restart : (an : AssociationNumber) → x.event ≡ events.Restart t
      → told_of_life an (life settings t (x ∷ r)) ≡ None
  unfolding life
  own-restart an ev =
      let y : nat_eq t t ≡ true = eq-eqb t t refl in rw ev (rw y (go (slice_get (stations r) t)))
    where
      go : (p : Option Profile) → told_of_life an (option_and_then (begun settings t r x.facts) p) ≡ None
      go None = refl
      go (Some p) = begun-told settings t r x.facts p an

  other-reached : (s number : ℕ) (octets : List ℕ) → IsReached r x.event s number octets → (s == t) ≡ false
      → life settings t (x ∷ r) ≡ life settings t r
  unfolding life
  other-reached s number octets (kinds.delivered f there same ev) apart = rw ev (rw apart refl)
  other-reached s number octets (kinds.injected zero_is ev) apart = rw ev (rw apart refl)

  own-reached : (number : ℕ) (octets : List ℕ) (l : Life) → IsReached r x.event t number octets
      → life settings t r ≡ Some l → life settings t (x ∷ r) ≡ Some (lived_hearing l octets)
  unfolding life
  own-reached number octets l (kinds.delivered f there same ev) living =
      let y : nat_eq t t ≡ true = eq-eqb t t refl in
      rw ev (rw (y, there, living) (ap (λ o. Some (lived_hearing l o)) same))
  own-reached number octets l (kinds.injected zero_is ev) living =
      let y : nat_eq t t ≡ true = eq-eqb t t refl in rw ev (rw (y, living) refl)

  claim-life : (s user pn : ℕ) → x.event ≡ events.Claim s user pn → life settings t (x ∷ r) ≡ life settings t r
  unfolding life
  claim-life s user pn ev = rw ev refl

  emit-life : x.event ≡ events.Emit → life settings t (x ∷ r) ≡ life settings t r
  unfolding life
  emit-life ev = rw ev refl

-- ---- one event more

-- the keys of each life keep the rules
abbrev AreKept : Settings → ℕ → Run → Type 0
AreKept settings t r = (l : Life) → life settings t r ≡ Some l → KeepsRules l.member.base (keys_in l)

module _ (settings : Settings) (users : List UserFrame) (x : Happening) (r : Run) (t : ℕ) (an : AssociationNumber) where
  -- what is told after the event is what its station holds then
  abbrev IsTold : Type 0
  IsTold = told_by t an x.facts (told_of_life an (life settings t r)) ≡ told_of_life an (life settings t (x ∷ r))

  still : life settings t (x ∷ r) ≡ life settings t r
      → told_by t an x.facts (told_of_life an (life settings t r)) ≡ told_of_life an (life settings t r) → IsTold
  still same none = none ∙ ap (told_of_life an) (sym same)

  goes : (l n : Life) → life settings t r ≡ Some l → life settings t (x ∷ r) ≡ Some n
      → told_by t an x.facts (told_in an (keys_in l)) ≡ told_in an (keys_in n) → IsTold
  goes l n living after is =
      ap (λ w. told_by t an x.facts (told_of_life an w)) living ∙ (is ∙ ap (told_of_life an) (sym after))

  on-told : Kind settings users r x.event x.facts → AreKept settings t r → IsTold
  on-told (kinds.starts name sci priority mi ev q) kept =
      by_test (length (stations r) == t)
      (λ y. ap (λ f. told_by t an f (told_of_life an (life settings t r))) q
      ∙ (life-own t an (length (stations r)) mi [] _ y
      ∙ (sym (begun-told settings t r x.facts (record { name = name; sci = sci; priority = priority }) an)
      ∙ ap (told_of_life an) (sym (own-start settings t x r name sci priority ev y)))))
      (λ y. still (other-start settings t x r name sci priority ev y)
      (ap (λ f. told_by t an f (told_of_life an (life settings t r))) q
      ∙ life-other t an (length (stations r)) mi [] _ y))
  on-told (kinds.ticks s next l ev living q) kept =
      by_test (s == t)
      (λ y. own (eqb-true s t y))
      (λ y. still (other-tick settings t x r s next ev y) (told (told_of_life an (life settings t r)) ∙ changes-other t an s re.changes _ y))
    where
      re : Reaction
      re = (tick_turn l.member (seen_at settings s r l next) (sak_in x.facts) l.past).reaction

      told : (o : Option Tell) → told_by t an x.facts o ≡ told_by t an (map (change_fact s) re.changes) o
      told o = ap (λ f. told_by t an f o) q ∙ reaction-told t an s 0 (next_frame r) re o

      own : s ≡ t → IsTold
      own same =
          let mine : life settings t r ≡ Some l = subst (λ v. life settings v r ≡ Some l) same living in
          let after = life-ticked settings t next x r l (ev ∙ ap (λ v. events.Tick v next) same) mine in
          goes l _ mine after
          (told (told_in an (keys_in l))
          ∙ (ap (λ v. told_by t an (map (change_fact v) re.changes) (told_in an (keys_in l))) same
          ∙ (changes-own t an re.changes (told_in an (keys_in l))
          ∙ (ap (λ v. told_all an (tick_turn l.member (seen_at settings v r l next) (sak_in x.facts) l.past).reaction.changes
          (told_in an (keys_in l))) same
          ∙ tick-goes an l.member (seen_at settings t r l next) (sak_in x.facts) l.past (kept l mine)))))
  on-told (kinds.reached s number octets l came living q) kept =
      by_test (s == t)
      (λ y. own (eqb-true s t y))
      (λ y. still (other-reached settings t x r s number octets came y)
      (ap (λ f. told_by t an f (told_of_life an (life settings t r))) q
      ∙ others-reached t an settings s r number octets l _ y))
    where
      turn : Turn
      turn = frame_turn l.member octets l.past

      own : s ≡ t → IsTold
      own same =
          let mine : life settings t r ≡ Some l = subst (λ v. life settings v r ≡ Some l) same living in
          let came_t : IsReached r x.event t number octets = subst (λ v. IsReached r x.event v number octets) same came in
          let q_t : x.facts ≡ reached_facts settings t r number octets l =
          q ∙ ap (λ v. reached_facts settings v r number octets l) same in
          let after = own-reached settings t x r number octets l came_t mine in
          by_test (is_sec octets)
          (λ sec. still (after ∙ rw (sec, mine) refl)
          (ap (λ f. told_by t an f (told_of_life an (life settings t r))) q_t ∙ rw sec refl))
          (λ sec. let after2 : life settings t (x ∷ r) ≡ Some (lived l turn) = after ∙ rw sec refl in
          let shown : x.facts ≡ reaction_facts t number 0 turn.reaction = q_t ∙ rw sec refl in
          goes l _ mine after2
          (ap (λ f. told_by t an f (told_in an (keys_in l))) shown
          ∙ (reaction-told t an t number 0 turn.reaction (told_in an (keys_in l))
          ∙ (changes-own t an turn.reaction.changes (told_in an (keys_in l))
          ∙ frame-goes an l.member octets l.past (kept l mine)))))
  on-told (kinds.restarts s mi l ev drawn living q) kept =
      by_test (s == t)
      (λ y. own (eqb-true s t y) y)
      (λ y. still (other-restart settings t x r s ev y)
      (ap (λ f. told_by t an f (told_of_life an (life settings t r))) q
      ∙ (life-other t an s mi (reaction_facts s 0 0 re) _ y
      ∙ (reaction-told t an s 0 0 re (told_of_life an (life settings t r)) ∙ changes-other t an s re.changes _ y))))
    where
      re : Reaction
      re = ending l.member l.past

      own : s ≡ t → (s == t) ≡ true → IsTold
      own same y =
          ap (λ f. told_by t an f (told_of_life an (life settings t r))) q
          ∙ (life-own t an s mi (reaction_facts s 0 0 re) _ y ∙ (reaction-told t an s 0 0 re None
          ∙ (ap (λ v. told_by t an (map (change_fact v) re.changes) None) same
          ∙ (changes-own t an re.changes None
          ∙ (end-told an l.member l.past
          ∙ sym (own-restart settings t x r an (ev ∙ ap events.Restart same)))))))
  on-told (kinds.claims s user pn ev q) kept =
      still (claim-life settings t x r s user pn ev)
      (ap (λ f. told_by t an f (told_of_life an (life settings t r))) q
      ∙ claim-told t an settings s pn r (transmitting_at settings s r) _)
  on-told (kinds.emits w ev waits q) kept =
      still (emit-life settings t x r ev) (emit-told t an users r w x.facts _ q)

-- ---- whole runs

kept-part : (settings : Settings) (t : ℕ) (x : Happening) (r : Run)
    → Part settings t r x.event x.facts (life settings t (x ∷ r)) → AreKept settings t r → AreKept settings t (x ∷ r)
kept-part settings t x r (kinds.same after none) kept l living = kept l (sym after ∙ living)
kept-part settings t x r (kinds.ticks next m ev before after) kept l living =
    let it : lived m (turn_at_tick settings t r m next (sak_in x.facts)) ≡ l = let e = sym after ∙ living in cc e in
    subst (λ w. KeepsRules w.member.base (keys_in w)) it
    (kept-turn m.member.base (keys_in m) _
    (tick-is_turn m.member (seen_at settings t r m next) (sak_in x.facts) m.past) (kept m before))
kept-part settings t x r (kinds.hears number octets m a came before plain right after) kept l living =
    let it : lived m (hear_turn m.member a m.past) ≡ l = let e = sym after ∙ living in cc e in
    subst (λ w. KeepsRules w.member.base (keys_in w)) it
    (kept-turn m.member.base (keys_in m) _ (hear-is_turn m.member a m.past) (kept m before))
kept-part settings t x r (kinds.born m new birth after shown) kept l living =
    let it : m ≡ l = let e = sym after ∙ living in cc e in
    subst (λ w. KeepsRules w.member.base (keys_in w)) it
    (subst (KeepsRules m.member.base) (sym (ap (keys_of m.member) new ∙ keys-new m.member)) tt)

none-lives : (settings : Settings) (t : ℕ) → life settings t [] ≡ None
unfolding life
none-lives settings t = refl

kept-run : (settings : Settings) (users : List UserFrame) (r : Run) (t : ℕ) → IsStepped settings users r
    → AreKept settings t r
kept-run settings users [] t stepped l living = let e = sym (none-lives settings t) ∙ living in absurd (cc e)
kept-run settings users (x ∷ r) t stepped l living =
    kept-part settings t x r (part settings users t x r stepped.0) (kept-run settings users r t stepped.1) l living

run-told : (settings : Settings) (users : List UserFrame) (r : Run) (t : ℕ) (an : AssociationNumber)
    → IsStepped settings users r → told_by t an (facts_of r) None ≡ told_of_life an (life settings t r)
run-told settings users [] t an stepped = sym (ap (told_of_life an) (none-lives settings t))
run-told settings users (x ∷ r) t an stepped =
    told-append t an (facts_of r) x.facts None
    ∙ (ap (told_by t an x.facts) (run-told settings users r t an stepped.1)
    ∙ on-told settings users x r t an (kind settings users x r stepped.0) (kept-run settings users r t stepped.1))

pub tell-of : (settings : Settings) (users : List UserFrame) (r : Run) → IsStepped settings users r → TellOf settings r
tell-of settings users r stepped = record {
  held = λ s an. (names-told s an (facts_of r) _ (run-told settings users r s an stepped)).0 ∙ held s an;
  transmits = λ s an. (names-told s an (facts_of r) _ (run-told settings users r s an stepped)).1 ∙ transmits s an;
}
  where
    held : (s : ℕ) (an : AssociationNumber)
        → map name_of (option_to_list (told_of_life an (life settings s r)))
        ≡ named (option_map (λ h. h.key) (held_at settings s r an))
    held s an =
        by_option (life settings s r) (λ none. rw none refl) (λ l some. rw some (held-told an (keys_in l)))

    transmits : (s : ℕ) (an : AssociationNumber)
        → map name_of (filter sends (option_to_list (told_of_life an (life settings s r))))
        ≡ named (under an (transmitting_at settings s r))
    transmits s an =
        by_option (life settings s r) (λ none. rw none refl)
        (λ l some. rw some (transmits-told an l.member.base (keys_in l)
        (kept-run settings users r s stepped l some)))
