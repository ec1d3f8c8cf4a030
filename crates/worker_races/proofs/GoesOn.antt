-- Control performed one event more; and what an event tells the words.
use Rattle.std.proofs.Common.{◌≡◌, ℕ, ◌==◌, true, false, List, [], ◌∷◌, ◌++◌, map, reverse}
use Rattle.std.proofs.Common.{Option, Some, None, refl, sym, ap, ◌∙◌, subst, inl, inr}
use Rattle.std.proofs.lemmas.Bool.{cases_Bool, eqb-true}
use Rattle.std.specs.Prelude.{Contains, is_some, option_map, option_to_list}
use Rattle.lan_base.specs.declared.address.Mi.{Mi}
use Rattle.lan_base.specs.declared.association_number.AssociationNumber.{AssociationNumber}
use Rattle.lan_base.specs.declared.frame.UserFrame.{UserFrame}
use Rattle.lan_base.specs.declared.key_id.KeyId.{KeyId}
use Rattle.aes_block.specs.declared.secret.Secret.{Secret}
use Rattle.gcm_frames.specs.Tags.{is_sec}
use Rattle.association_slots.specs.Views.{ControlAt, current}
use Rattle.association_slots.specs.Views.{newest as newest_word}
use Rattle.association_slots.specs.declared.view.ControlView.{ControlView}
use Rattle.sak_exchange.specs.declared.change.Change.{Change}
use Rattle.sak_exchange.specs.declared.change.Change.TheVariants as changes
use Rattle.sak_exchange.specs.declared.held_key.HeldKey.{HeldKey}
use Rattle.mka_station.specs.Hearing.{frame_turn}
use Rattle.mka_station.specs.Restart.{ending}
use Rattle.mka_station.specs.declared.reaction.Reaction.{Reaction}
use Rattle.mka_station.specs.declared.verdict.Verdict.{Verdict}
use Rattle.lan_core.specs.declared.event.Event.{Event}
use Rattle.lan_core.specs.declared.event.Event.TheVariants as events
use Rattle.lan_core.specs.declared.fact.Fact.{Fact}
use Rattle.lan_core.specs.declared.fact.Fact.TheVariants as facts
use Rattle.lan_core.specs.declared.settings.Settings.{Settings}
use Rattle.lan_core.specs.Expected.{change_fact, reached_facts, reaction_facts}
use Rattle.lan_core.specs.Keys.{held_at}
use Rattle.lan_core.specs.Ledgers.{next_frame}
use Rattle.lan_core.specs.Legal.{IsStep, IsStepped}
use Rattle.lan_core.specs.Lives.{Life, sak_in, transmitting_at, turn_at_tick}
use Rattle.lan_core.specs.Order.{is_event_of}
use Rattle.lan_core.specs.Run.{Run, Happening}
use Rattle.group_safety.specs.Accounts.{account_at, onward}
use Rattle.group_safety.specs.Transmitting.{Carried, CarriesAt, Sending, follow, newest}
use Rattle.group_safety.proofs.Public.{Kind, kind}
use Rattle.group_safety.proofs.Public as kinds
use Rattle.sak_exchange.proofs.Public.{by_test}
use Rattle.worker_races.specs.declared.merge.step.Step.{Step}
use Rattle.worker_races.specs.merge.Table.{Controls, an_in, an_of, current_of, flipped, words_of}
use Rattle.station_words.specs.Telling.{word_of}
use Rattle.station_words.proofs.Public.{onward-carried}
use Rattle.station_words.specs.Ties.{AreHeld, Followed, HaveLooked, KeepAhead}
use Rattle.worker_races.specs.Going.{HaveGone, WereTold, words_by}
use Rattle.worker_races.specs.Performed.{ArePerformed, IsPerformed, run_after}

-- ---- one event more

pub run-more : (xs : Controls) (r : Run) (t : ℕ) (x : Happening) → run_after (xs ++ (t, x) ∷ []) r ≡ x ∷ run_after xs r
run-more [] r t x = refl
run-more ((s, y) ∷ xs) r t x = run-more xs (y ∷ r) t x

pub performed-more : (settings : Settings) (users : List UserFrame) (r : Run) (xs : Controls) (steps : List Step) (t : ℕ)
    (x : Happening) (kept : Step) → ArePerformed settings users r xs steps → IsPerformed settings users (run_after xs r) t x kept
    → ArePerformed settings users r (xs ++ (t, x) ∷ []) (steps ++ kept ∷ [])
performed-more settings users r [] [] t x kept before one = (one, tt)
performed-more settings users r [] (k ∷ steps) t x kept before one = absurd before
performed-more settings users r ((s, y) ∷ xs) [] t x kept before one = absurd before
performed-more settings users r ((s, y) ∷ xs) (k ∷ steps) t x kept before one =
    (before.0, performed-more settings users (y ∷ r) xs steps t x kept before.1 one)

pub gone-more : (settings : Settings) (r : Run) (xs : Controls) (t : ℕ) (x : Happening) (old mid new : List ControlAt)
    → HaveGone settings r xs old mid → WereTold settings (run_after xs r) t x mid new
    → HaveGone settings r (xs ++ (t, x) ∷ []) old new
gone-more settings r [] t x old mid new before one =
    (new, subst (λ cs. WereTold settings r t x cs new) before one, refl)
gone-more settings r ((s, y) ∷ xs) t x old mid new before one =
    (before.0, before.1, gone-more settings (y ∷ r) xs t x before.0 mid new before.2 one)

-- ---- what an event says to the words of other stations

-- facts that say nothing to the word of a station
abbrev SayNone : ℕ → List Fact → Type 0
SayNone s shown = (top : ℕ) (o : Option AssociationNumber) → words_of s top o shown ≡ []

none-changes : (s t : ℕ) (cs : List Change) (later : List Fact) → (t == s) ≡ false → SayNone s later
    → SayNone s (map (change_fact t) cs ++ later)
none-changes s t [] later apart none top o = none top o
none-changes s t (changes.Dropped h ∷ cs) later apart none top o = rw apart (none-changes s t cs later apart none top o)
none-changes s t (changes.Retired h ∷ cs) later apart none top o = none-changes s t cs later apart none top o
none-changes s t (changes.Began h cause ∷ cs) later apart none top o = rw apart (none-changes s t cs later apart none top o)
none-changes s t (changes.Installed h ∷ cs) later apart none top o = none-changes s t cs later apart none top o
none-changes s t (changes.Untaken id why ∷ cs) later apart none top o = none-changes s t cs later apart none top o

none-verdict : (s t h : ℕ) (v : Option Verdict) (later : List Fact) → SayNone s later
    → SayNone s (option_to_list (option_map (λ v. facts.HeardMka h t v) v) ++ later)
none-verdict s t h None later none = none
none-verdict s t h (Some v) later none = none

none-server : (s t : ℕ) (m : Option (Option Mi)) (later : List Fact) → SayNone s later
    → SayNone s (option_to_list (option_map (λ m. facts.Server t m) m) ++ later)
none-server s t None later none = none
none-server s t (Some m) later none = none

none-sent : (s t n : ℕ) (o : Option (List ℕ)) → SayNone s (option_to_list (option_map (λ octets. facts.Framed n t false octets) o))
none-sent s t n None top o = refl
none-sent s t n (Some octets) top o = refl

none-reaction : (s t h n : ℕ) (re : Reaction) → (t == s) ≡ false → SayNone s (reaction_facts t h n re)
none-reaction s t h n re apart =
    none-verdict s t h re.heard _ (none-server s t re.server _ (none-changes s t re.changes _ apart (none-sent s t n re.sent)))

none-reached : (settings : Settings) (s t : ℕ) (r : Run) (number : ℕ) (octets : List ℕ) (l : Life) → (t == s) ≡ false
    → SayNone s (reached_facts settings t r number octets l)
none-reached settings s t r number octets l apart top o =
    by_test (is_sec octets) (λ sec. rw sec refl)
    (λ sec. rw sec (none-reaction s t number 0 (frame_turn l.member octets l.past).reaction apart top o))

-- the station of an event is the one that its kind names
same-of : (t : ℕ) (e f : Event) → is_event_of t e ≡ true → e ≡ f → is_event_of t f ≡ true
same-of t e f own same = ap (is_event_of t) (sym same) ∙ own

none-else : (settings : Settings) (users : List UserFrame) (s t : ℕ) (r : Run) (e : Event) (shown : List Fact)
    → Kind settings users r e shown → is_event_of t e ≡ true → (t == s) ≡ false → SayNone s shown
none-else settings users s t r e shown (kinds.starts name sci priority mi ev q) own apart =
    absurd (let no = same-of t e (events.Start name sci priority) own ev in cc no)
none-else settings users s t r e shown (kinds.ticks u n l ev living q) own apart =
    let at : u ≡ t = eqb-true u t (same-of t e (events.Tick u n) own ev) in
    subst (SayNone s) (sym q) (none-reaction s u 0 (next_frame r) (turn_at_tick settings u r l n (sak_in shown)).reaction
    (subst (λ v. (v == s) ≡ false) (sym at) apart))
none-else settings users s t r e shown (kinds.reached u number octets l (kinds.delivered g there same ev) living q) own apart =
    let at : u ≡ t = eqb-true u t (same-of t e (events.Deliver number u) own ev) in
    subst (SayNone s) (sym q) (none-reached settings s u r number octets l (subst (λ v. (v == s) ≡ false) (sym at) apart))
none-else settings users s t r e shown (kinds.reached u number octets l (kinds.injected zero_is ev) living q) own apart =
    let at : u ≡ t = eqb-true u t (same-of t e (events.Inject u octets) own ev) in
    subst (SayNone s) (sym q) (none-reached settings s u r number octets l (subst (λ v. (v == s) ≡ false) (sym at) apart))
none-else settings users s t r e shown (kinds.restarts u mi l ev drawn living q) own apart =
    let at : u ≡ t = eqb-true u t (same-of t e (events.Restart u) own ev) in
    subst (SayNone s) (sym q) (none-reaction s u 0 0 (ending l.member l.past) (subst (λ v. (v == s) ≡ false) (sym at) apart))
none-else settings users s t r e shown (kinds.claims u user pn ev q) own apart =
    absurd (let no = same-of t e (events.Claim u user pn) own ev in cc no)
none-else settings users s t r e shown (kinds.emits w ev waits is) own apart =
    absurd (let no = same-of t e events.Emit own ev in cc no)

-- ---- what an event tells the words

module _ (settings : Settings) (users : List UserFrame) (r : Run) (t : ℕ) (x : Happening) (stepped : IsStepped settings users r)
    (step : IsStep settings users x r) (own : is_event_of t x.event ≡ true)
    (moves : (s : ℕ) (k : Carried) → CarriesAt settings s r k → (j : Carried) × (follow s x.facts k ≡ Some j) × CarriesAt settings s (x ∷ r) j)
    (held : (s : ℕ) (id : KeyId) (an : AssociationNumber) (epoch : ℕ) (sak : Secret)
    → Contains x.facts (facts.Installed s id an epoch sak)
    → (h : HeldKey) × (held_at settings s (x ∷ r) an ≡ Some h) × (h.key.epoch ≡ epoch) × (h.key.sak ≡ sak))
    (tells : (s : ℕ) (shown : List Fact) (k j : Carried) → follow s shown k ≡ Some j
    → map current_of j.points ≡ reverse (words_of s (newest k.points).epoch (an_in (newest k.points)) shown) ++ map current_of k.points)
    (tells-step : (s : ℕ) (k j : Carried) → is_event_of s x.event ≡ true → CarriesAt settings s r k → follow s x.facts k ≡ Some j
    → map current_of j.points ≡ flipped (words_of s (newest k.points).epoch (an_of (transmitting_at settings s r)) x.facts) ++ map current_of k.points) where
  are-held : AreHeld settings (x ∷ r) x.facts
  are-held s id an epoch sak has = ap is_some (held s id an epoch sak has).1

  newest-is : (k : Carried) (c : ControlView) → c.points ≡ map word_of k.points
      → (newest k.points).epoch ≡ (current c).epoch
  newest-is k c points = sym (ap (λ ps. (newest_word ps).epoch) points ∙ at k.points)
    where
      at : (ps : List Sending) → (newest_word (map word_of ps)).epoch ≡ (newest ps).epoch
      at [] = refl
      at (p ∷ ps) = refl

  said : (s : ℕ) (k j : Carried) (c : ControlView) → CarriesAt settings s r k → follow s x.facts k ≡ Some j
      → c.points ≡ map word_of k.points → map word_of j.points ≡ words_by settings r t x s c ++ c.points
  said s k j c carries follows points = elim (cases_Bool (t == s)) [
    | inl same ↦ (let own_s = subst (λ n. is_event_of n x.event ≡ true) (eqb-true t s same) own in
        rw same (tells-step s k j own_s carries follows
        ∙ (λ i. flipped (words_of s (newest-is k c points i) (an_of (transmitting_at settings s r)) x.facts) ++ sym points i)))
    | inr other ↦ rw other (tells s x.facts k j follows
        ∙ (ap (λ ws. reverse ws ++ map current_of k.points)
        (none-else settings users s t r x.event x.facts (kind settings users x r step) own other (newest k.points).epoch (an_in (newest k.points)))
        ∙ sym points))
  ]

  pub event-tells : (cs ds es : List ControlAt) → HaveLooked cs ds → KeepAhead settings r x.event ds
      → Followed settings (x ∷ r) x.facts ds es → WereTold settings r t x cs es
  event-tells cs ds es looked ahead followed =
      let have = followed are-held in
      record {
        many = have.many ∙ looked.many;
        each = λ s e at.
            let mid = have.each s e at in
            let look = looked.each s mid.0 mid.1 in
            let tie = ahead.each s mid.0 mid.1 in
            let j = moves s tie.0 tie.1 in
            let before : mid.0.view.points ≡ map word_of tie.0.points =
            tie.2.points ∙ ap (λ (k : Carried). map word_of k.points) (onward-carried s x.event (account_at settings s r tie.0)) in
            let follows : follow s x.facts (onward s x.event (account_at settings s r tie.0)).carried ≡ Some j.0 =
            ap (follow s x.facts) (onward-carried s x.event (account_at settings s r tie.0)) ∙ j.1 in
            let up = mid.2.keeps_up (onward s x.event (account_at settings s r tie.0)) j.0 tie.2 follows in
            let same : mid.0.view.points ≡ look.0.view.points = look.2 in (
              look.0,
              look.1,
              record {
                points = up.points ∙ said s tie.0 j.0 look.0.view tie.1 j.1 (sym same ∙ before);
                seats = mid.2.seats ∙ look.3;
              },
            );
      }
