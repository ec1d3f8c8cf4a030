-- What an event of a station tells its current word, by its facts.
use Rattle.std.proofs.Common.{◌≡◌, ℕ, true, false, List, [], ◌∷◌, ◌++◌, map, length, refl, sym, ap, ◌∙◌, subst, inl, inr}
use Rattle.lan_base.specs.declared.association_number.AssociationNumber.{AssociationNumber}
use Rattle.std.proofs.Common.{Option, Some, None, Result, Ok, Err}
use Rattle.std.specs.Prelude.{◌==◌, option_map, option_and_then, option_to_list, slice_get}
use Rattle.std.proofs.lemmas.Bool.{eqb-true, eq-eqb, cases_Bool}
use Rattle.lan_base.specs.declared.address.Mi.{Mi}
use Rattle.lan_base.specs.declared.frame.UserFrame.{UserFrame}
use Rattle.gcm_frames.specs.Tags.{is_sec}
use Rattle.rx_slots.specs.Numbers.{answer}
use Rattle.mkpdu_codec.specs.declared.announcement.Announcement.{Announcement}
use Rattle.sak_exchange.specs.declared.change.Change.{Change}
use Rattle.sak_exchange.specs.declared.change.Change.TheVariants as changes
use Rattle.sak_exchange.specs.Held.{KeepsRules, transmitting}
use Rattle.mka_station.specs.declared.reaction.Reaction.{Reaction}
use Rattle.mka_station.specs.declared.verdict.DropReason.{DropReason}
use Rattle.mka_station.specs.declared.verdict.Verdict.{Verdict}
use Rattle.mka_station.specs.declared.verdict.Verdict.TheVariants as verdicts
use Rattle.mka_station.specs.Lives.{keys_of}
use Rattle.mka_station.specs.Hearing.{judged, frame_turn, hear_turn}
use Rattle.mka_station.specs.Restart.{ending}
use Rattle.lan_core.specs.declared.event.Event.{Event}
use Rattle.lan_core.specs.declared.event.Event.TheVariants as events
use Rattle.lan_core.specs.declared.fact.Fact.{Fact}
use Rattle.lan_core.specs.declared.fact.Fact.TheVariants as facts
use Rattle.lan_core.specs.declared.settings.Settings.{Settings}
use Rattle.lan_core.specs.Run.{Run, Happening, Profile, stations}
use Rattle.lan_core.specs.Ledgers.{next_frame, installs_at}
use Rattle.lan_core.specs.Lives.{Life, life, begun, lived, lived_hearing, keys_in, seen_at, sak_in, drawn_mi, setup_of, receiving, transmitting_at, turn_at_tick}
use Rattle.lan_core.specs.Expected.{change_fact, reaction_facts, tick_facts, reached_facts, restart_facts}
use Rattle.lan_core.specs.Order.{is_event_of}
use Rattle.lan_core.specs.Legal.{IsStep, IsStepped}
use Rattle.group_safety.proofs.Public.{kind, IsReached}
use Rattle.group_safety.proofs.Public as kinds
use Rattle.group_safety.proofs.Public.{life-ticked}
use Rattle.worker_races.specs.merge.Table.{an_of, calls, words_of, IsTold}
use Rattle.worker_races.specs.merge.Table as told
use Rattle.worker_races.proofs.weaving.FromRun.{kept-run, in-life, none-in}
use Rattle.worker_races.proofs.weaving.TurnsTold.{tick-told, hear-told, ending-told}

-- ---- facts

by-verdict : (s top heard : ℕ) (o : Option AssociationNumber) (v : Option Verdict) (rest : List Fact)
    → words_of s top o (option_to_list (option_map (λ v. facts.HeardMka heard s v) v) ++ rest) ≡ words_of s top o rest
by-verdict s top heard o None rest = refl
by-verdict s top heard o (Some v) rest = refl

by-server : (s top : ℕ) (o : Option AssociationNumber) (m : Option (Option Mi)) (rest : List Fact)
    → words_of s top o (option_to_list (option_map (λ m. facts.Server s m) m) ++ rest) ≡ words_of s top o rest
by-server s top o None rest = refl
by-server s top o (Some m) rest = refl

by-sent : (s top sent : ℕ) (o : Option AssociationNumber) (q : Option (List ℕ)) → words_of s top o (option_to_list (option_map (λ octets. facts.Framed sent s false octets) q)) ≡ []
by-sent s top sent o None = refl
by-sent s top sent o (Some octets) = refl

by-changes : (s top : ℕ) (o : Option AssociationNumber) (cs : List Change) (rest : List Fact) → ((top : ℕ) (o : Option AssociationNumber) → words_of s top o rest ≡ [])
    → words_of s top o (map (change_fact s) cs ++ rest) ≡ calls top o cs
by-changes s top o [] rest none = none top o
by-changes s top o (changes.Dropped k ∷ cs) rest none =
    rw (eq-eqb s s refl, by-changes s top None cs rest none, by-changes s top o cs rest none) refl
by-changes s top o (changes.Retired k ∷ cs) rest none = by-changes s top o cs rest none
by-changes s top o (changes.Began k cause ∷ cs) rest none = rw (eq-eqb s s refl, by-changes s k.key.epoch (Some k.key.an) cs rest none) refl
by-changes s top o (changes.Installed k ∷ cs) rest none = by-changes s top o cs rest none
by-changes s top o (changes.Untaken id why ∷ cs) rest none = by-changes s top o cs rest none

reaction-words : (s top heard sent : ℕ) (o : Option AssociationNumber) (re : Reaction) → words_of s top o (reaction_facts s heard sent re) ≡ calls top o re.changes
reaction-words s top heard sent o re =
    by-verdict s top heard o re.heard _
    ∙ (by-server s top o re.server _
    ∙ by-changes s top o re.changes _ (λ t p. by-sent s t sent p re.sent))

-- ---- lives

reached-life : (settings : Settings) (t number : ℕ) (octets : List ℕ) (l : Life) (x : Happening)
    (r : Run) → IsReached r x.event t number octets → life settings t r ≡ Some l
    → life settings t (x ∷ r) ≡ Some (lived_hearing l octets)
unfolding life
reached-life settings t number octets l x r (kinds.delivered f there same ev) living =
    rw ev (rw (eq-eqb t t refl, there, living) (ap (λ o. Some (lived_hearing l o)) same))
reached-life settings t number octets l x r (kinds.injected zero_is ev) living =
    rw ev (rw (eq-eqb t t refl, living) refl)

restart-none : (settings : Settings) (s : ℕ) (c : Run) (x : Happening) → x.event ≡ events.Restart s
    → transmitting_at settings s (x ∷ c) ≡ None
unfolding life
restart-none settings s c x is = rw (is, eq-eqb s s refl) (go (slice_get (stations c) s))
  where
    go : (o : Option Profile) → option_and_then (λ l. transmitting (keys_in l)) (option_and_then (begun settings s c x.facts) o) ≡ None
    go None = refl
    go (Some p) = again p (drawn_mi x.facts)
      where
        again : (p : Profile) (o : Option Mi) → option_and_then (λ l. transmitting (keys_in l)) (option_map (λ mi. record {
          member = record { setup = setup_of settings p; mi = mi; base = length (installs_at s c) };
          past = [];
        }) o) ≡ None
        again p None = refl
        again p (Some mi) = none-in (record {
          member = record { setup = setup_of settings p; mi = mi; base = length (installs_at s c) };
          past = [];
        }) refl

-- ---- an event

module _ (settings : Settings) (s : ℕ) (c : Run) (x : Happening) (top : ℕ) where
  Told : Type 0
  Told = IsTold top (transmitting_at settings s c) (transmitting_at settings s (x ∷ c)) (words_of s top (an_of (transmitting_at settings s c)) x.facts)

  from-turn : (l m : Life) (shown : List Fact) → life settings s c ≡ Some l → life settings s (x ∷ c) ≡ Some m → x.facts ≡ shown
      → IsTold top (transmitting (keys_in l)) (transmitting (keys_in m)) (words_of s top (an_of (transmitting (keys_in l))) shown) → Told
  unfolding Told
  from-turn l m shown before after is told = rw (before, after, is) told

  ticks-told : (next : ℕ) (l : Life) → KeepsRules l.member.base (keys_in l) → life settings s c ≡ Some l → x.event ≡ events.Tick s next
      → x.facts ≡ tick_facts settings s c next (sak_in x.facts) l → Told
  ticks-told next l kept living ev is =
      let seen = seen_at settings s c l next in
      let turn = turn_at_tick settings s c l next (sak_in x.facts) in
      from-turn l (lived l turn) (tick_facts settings s c next (sak_in x.facts) l) living (life-ticked settings s next x c l ev living) is
      (subst (λ ws. IsTold top (transmitting (keys_in l)) (transmitting (keys_in (lived l turn))) ws)
      (sym (reaction-words s top 0 (next_frame c) (an_of (transmitting (keys_in l))) turn.reaction))
      (tick-told l.member seen (sak_in x.facts) l.past top kept))

  reached-told : (number : ℕ) (octets : List ℕ) (l : Life) → KeepsRules l.member.base (keys_in l) → life settings s c ≡ Some l
      → IsReached c x.event s number octets → x.facts ≡ reached_facts settings s c number octets l → Told
  reached-told number octets l kept living came is = elim (cases_Bool (is_sec octets)) [
    | inl sec ↦ from-turn l l (facts.Arrived number s (answer l.member.setup.sci settings.window (receiving s c) octets) ∷ []) living
        (reached-life settings s number octets l x c came living ∙ rw sec refl) (is ∙ rw sec refl) (told.stays refl refl)
    | inr plain ↦ hears plain (judged l.member.setup octets) refl
  ]
    where
      turns : is_sec octets ≡ false → life settings s (x ∷ c) ≡ Some (lived l (frame_turn l.member octets l.past))
      turns plain = reached-life settings s number octets l x c came living ∙ rw plain refl

      shows : is_sec octets ≡ false → x.facts ≡ reaction_facts s number 0 (frame_turn l.member octets l.past).reaction
      shows plain = is ∙ rw plain refl

      words : (re : Reaction) → words_of s top (an_of (transmitting (keys_in l))) (reaction_facts s number 0 re) ≡ calls top (an_of (transmitting (keys_in l))) re.changes
      words re = reaction-words s top number 0 (an_of (transmitting (keys_in l))) re

      hears : is_sec octets ≡ false → (j : Result Announcement DropReason) → judged l.member.setup octets ≡ j → Told
      hears plain (Ok a) right =
          from-turn l (lived l (hear_turn l.member a l.past)) (reaction_facts s number 0 (hear_turn l.member a l.past).reaction) living
          (turns plain ∙ rw right refl) (shows plain ∙ rw right refl)
          (subst (λ ws. IsTold top (transmitting (keys_in l)) (transmitting (keys_of l.member (hear_turn l.member a l.past).past)) ws)
          (sym (words (hear_turn l.member a l.past).reaction)) (hear-told l.member a l.past top kept))
      hears plain (Err v) wrong =
          from-turn l l (reaction_facts s number 0 (record { heard = Some (verdicts.Dropped v); server = None; changes = []; sent = None })) living
          (turns plain ∙ rw wrong refl) (shows plain ∙ rw wrong refl) (told.stays refl refl)

  restarts-told : (mi : Mi) (l : Life) → life settings s c ≡ Some l → x.event ≡ events.Restart s → x.facts ≡ restart_facts s mi l → Told
  unfolding Told
  restarts-told mi l living ev is =
      let none = restart-none settings s c x ev in
      let told1 = subst (λ ws. IsTold top (transmitting (keys_in l)) None ws)
      (sym (reaction-words s top 0 0 (an_of (transmitting (keys_in l))) (ending l.member l.past)))
      (ending-told l.member l.past top None refl) in
      let told2 = subst (λ f. IsTold top (transmitting (keys_in l)) None (words_of s top (an_of (transmitting (keys_in l))) f)) (sym is) told1 in
      let told3 = subst (λ o. IsTold top o None (words_of s top (an_of o) x.facts)) (sym (in-life settings s c l living)) told2 in
      subst (λ o. IsTold top (transmitting_at settings s c) o (words_of s top (an_of (transmitting_at settings s c)) x.facts)) (sym none) told3

  -- an event of the station
  pub event-told : (users : List UserFrame) → IsStepped settings users c → IsStep settings users x c → is_event_of s x.event ≡ true
      → IsTold top (transmitting_at settings s c) (transmitting_at settings s (x ∷ c)) (words_of s top (an_of (transmitting_at settings s c)) x.facts)
  unfolding Told
  event-told users stepped step own = go (kind settings users x c step)
    where
      at : (t : ℕ) (e : Event) → x.event ≡ e → is_event_of s e ≡ (t == s) → t ≡ s
      at t e ev is = eqb-true t s (sym is ∙ subst (λ f. is_event_of s f ≡ true) ev own)

      go : kinds.Kind settings users c x.event x.facts → Told
      go (kinds.starts name sci priority mi ev is) = absurd (let no = subst (λ f. is_event_of s f ≡ true) ev own in cc no)
      go (kinds.ticks t next l ev living is) =
          let same = at t (events.Tick t next) ev refl in
          ticks-told next l (kept-run settings users c stepped s l (subst (λ v. life settings v c ≡ Some l) same living))
          (subst (λ v. life settings v c ≡ Some l) same living) (subst (λ v. x.event ≡ events.Tick v next) same ev)
          (subst (λ v. x.facts ≡ tick_facts settings v c next (sak_in x.facts) l) same is)
      go (kinds.reached t number octets l came living is) =
          let same = reaches t number octets came in
          reached-told number octets l (kept-run settings users c stepped s l (subst (λ v. life settings v c ≡ Some l) same living))
          (subst (λ v. life settings v c ≡ Some l) same living) (subst (λ v. IsReached c x.event v number octets) same came)
          (subst (λ v. x.facts ≡ reached_facts settings v c number octets l) same is)
        where
          reaches : (t number : ℕ) (octets : List ℕ) → IsReached c x.event t number octets → t ≡ s
          reaches t number octets (kinds.delivered f there same ev) = at t (events.Deliver number t) ev refl
          reaches t number octets (kinds.injected nil ev) = at t (events.Inject t octets) ev refl
      go (kinds.restarts t mi l ev drawn living is) =
          let same = at t (events.Restart t) ev refl in
          restarts-told mi l (subst (λ v. life settings v c ≡ Some l) same living) (subst (λ v. x.event ≡ events.Restart v) same ev)
          (subst (λ v. x.facts ≡ restart_facts v mi l) same is)
      go (kinds.claims t user pn ev is) = absurd (let no = subst (λ f. is_event_of s f ≡ true) ev own in cc no)
      go (kinds.emits w ev waits is) = absurd (let no = subst (λ f. is_event_of s f ≡ true) ev own in cc no)
