-- What the current word of a station was told of all that control performed.
use Rattle.std.proofs.Common.{◌≡◌, ◌<◌, ◌≤◌, ℕ, ◌==◌, Bool, true, false, cond, List, [], ◌∷◌, ◌++◌, length}
use Rattle.std.proofs.Common.{Some, None, refl, sym, ap, ◌∙◌, subst, arith, append_assoc}
use Rattle.std.proofs.Common.{zero, suc, inl, inr}
use Rattle.std.proofs.lemmas.Bool.{cases_Bool, eqb-true, lt-ltb, ltb-true}
use Rattle.std.specs.Prelude.{nat_lt, option_and_then, slice_get}
use Rattle.lan_base.specs.declared.frame.UserFrame.{UserFrame}
use Rattle.association_slots.specs.Views.{ControlAt, current, newest}
use Rattle.association_slots.specs.declared.view.ControlView.{ControlView}
use Rattle.association_slots.specs.declared.view.Current.{Current}
use Rattle.sak_exchange.specs.declared.held_key.Key.{Key}
use Rattle.sak_exchange.specs.Held.{transmitting}
use Rattle.lan_core.specs.declared.settings.Settings.{Settings}
use Rattle.lan_core.specs.Run.{Run, Happening, stations}
use Rattle.lan_core.specs.Lives.{keys_in, transmitting_at}
use Rattle.lan_core.specs.Legal.{IsStep, IsStepped}
use Rattle.lan_core.specs.Order.{Exists, is_event_of}
use Rattle.lan_core.proofs.Public.{others-change-none}
use Rattle.worker_races.specs.declared.merge.step.Step.{Step}
use Rattle.worker_races.specs.merge.Given.{IsPast}
use Rattle.worker_races.specs.merge.Places.{last_of}
use Rattle.worker_races.specs.merge.Raced.{epoch_at, epoch_of}
use Rattle.worker_races.specs.merge.Table.{Controls, IsTold, an_of, flipped, move_at, words_in, words_of}
use Rattle.worker_races.specs.merge.Table as table
use Rattle.worker_races.proofs.weaving.EventTold.{event-told}
use Rattle.worker_races.proofs.weaving.FromRun.{goes}
use Rattle.worker_races.proofs.weaving.Agree.{own-of}
use Rattle.worker_races.proofs.weaving.FromRun as races
use Rattle.station_words.specs.Telling.{of_seats}
use Rattle.worker_races.specs.Going.{HaveGone, WasTold, WereTold, words_by}
use Rattle.worker_races.specs.Performed.{ArePerformed}
use Rattle.worker_races.specs.Reading.{view_in, view_at}
use Rattle.worker_races.proofs.Words.{same-places}

pub some-at : {A : Type 0} (xs : List A) (n : ℕ) → n < length xs → (x : A) × (slice_get xs n ≡ Some x)
some-at [] n less = absurd (omega (arith, less))
some-at (x ∷ xs) zero less = (x, refl)
some-at (x ∷ xs) (suc n) less = some-at xs n (omega (arith, less))

-- ---- one event

last-high : (top after : ℕ) → top < after → cond (nat_lt top after) after top ≡ after
last-high top after high = ap (λ b. cond b after top) (lt-ltb top after high)

last-low : (top after : ℕ) → after ≤ top → cond (nat_lt top after) after top ≡ top
last-low top after low = go (nat_lt top after) refl
  where
    go : (b : Bool) → nat_lt top after ≡ b → cond b after top ≡ top
    go false is = refl
    go true is = absurd (let less = ltb-true top after is in omega (arith, less, low))

-- the last epoch pointed at, after an event told the word, is the one that the places see
pub record OneOn (settings : Settings) (s : ℕ) (r : Run) (x : Happening) (ps : List Current) : Type 0 where
  pub last : (newest (flipped (words_of s (newest ps).epoch (an_of (transmitting_at settings s r)) x.facts) ++ ps)).epoch
      ≡ last_of (newest ps).epoch (move_at settings s (newest ps).epoch r x)
  pub past : IsPast settings s (x ∷ r) (last_of (newest ps).epoch (move_at settings s (newest ps).epoch r x))
  pub low : epoch_at settings s (x ∷ r) ≤ last_of (newest ps).epoch (move_at settings s (newest ps).epoch r x)

module _ (settings : Settings) (users : List UserFrame) where
  one-on : (s : ℕ) (r : Run) (x : Happening) (ps : List Current) → IsStepped settings users r → IsStep settings users x r
      → is_event_of s x.event ≡ true → Exists s r → IsPast settings s r (newest ps).epoch
      → epoch_at settings s r ≤ (newest ps).epoch → OneOn settings s r x ps
  one-on s r x ps stepped step own there past low =
      elim (goes settings users s top r x stepped step own there past) [
        | races.keeps stay then ↦ (let same : last ≡ top = last-low top now (let e = ap epoch_of stay in omega (arith, e, low)) in record {
          last = kept told stay ∙ sym same;
          past = subst (IsPast settings s (x ∷ r)) (sym same) then;
          low = (let e = ap epoch_of stay in omega (arith, e, low, same));
        })
        | races.ends none then ↦ (let same : last ≡ top = last-low top now (let e = ap epoch_of none in omega (arith, e)) in record {
          last = ended told none ∙ sym same;
          past = subst (IsPast settings s (x ∷ r)) (sym same) then;
          low = (let e = ap epoch_of none in omega (arith, e));
        })
        | races.begins b sends high later then ↦ (let is : now ≡ b.epoch = ap epoch_of sends in
            let same : last ≡ now = last-high top now (omega (arith, is, high)) in record {
              last = begun b high told sends ∙ sym (same ∙ is);
              past = subst (IsPast settings s (x ∷ r)) (sym (same ∙ is)) then;
              low = omega (arith, same);
            })
      ]
    where
      top : ℕ
      top = (newest ps).epoch

      now : ℕ
      now = epoch_at settings s (x ∷ r)

      last : ℕ
      last = last_of (newest ps).epoch (move_at settings s (newest ps).epoch r x)

      ws : List Current
      ws = words_of s (newest ps).epoch (an_of (transmitting_at settings s r)) x.facts

      told : IsTold (newest ps).epoch (transmitting_at settings s r) (transmitting_at settings s (x ∷ r)) ws
      told = event-told settings s r x (newest ps).epoch users stepped step own

      kept : IsTold (newest ps).epoch (transmitting_at settings s r) (transmitting_at settings s (x ∷ r)) ws
          → transmitting_at settings s (x ∷ r) ≡ transmitting_at settings s r
          → (newest (flipped ws ++ ps)).epoch ≡ (newest ps).epoch
      kept (table.stays same is) stay = ap (λ us. (newest (flipped us ++ ps)).epoch) is
      kept (table.ends k was none is) stay = ap (λ us. (newest (flipped us ++ ps)).epoch) is
      kept (table.begins b sends higher is) stay =
          absurd (let less = higher b (sym stay ∙ sends) in omega (arith, less))
      kept (table.changes k b was sends higher is) stay =
          absurd (let same : k ≡ b = cc (sym was ∙ (sym stay ∙ sends)) in let e = ap (λ (w : Key). w.epoch) same in omega (arith, higher, e))

      ended : IsTold (newest ps).epoch (transmitting_at settings s r) (transmitting_at settings s (x ∷ r)) ws
          → transmitting_at settings s (x ∷ r) ≡ None → (newest (flipped ws ++ ps)).epoch ≡ (newest ps).epoch
      ended (table.stays same is) none = ap (λ us. (newest (flipped us ++ ps)).epoch) is
      ended (table.ends k was gone is) none = ap (λ us. (newest (flipped us ++ ps)).epoch) is
      ended (table.begins b sends higher is) none = absurd (cc (sym none ∙ sends))
      ended (table.changes k b was sends higher is) none = absurd (cc (sym none ∙ sends))

      begun : (b : Key) → (newest ps).epoch < b.epoch
          → IsTold (newest ps).epoch (transmitting_at settings s r) (transmitting_at settings s (x ∷ r)) ws
          → transmitting_at settings s (x ∷ r) ≡ Some b → (newest (flipped ws ++ ps)).epoch ≡ b.epoch
      begun b high (table.stays same is) sends =
          absurd (let e = ap epoch_of (sym same ∙ sends) in omega (arith, e, low, high))
      begun b high (table.ends k was none is) sends = absurd (cc (sym none ∙ sends))
      begun b high (table.begins k begins higher is) sends =
          let same : k ≡ b = cc (sym begins ∙ sends) in
          ap (λ us. (newest (flipped us ++ ps)).epoch) is ∙ ap (λ (w : Key). w.epoch) same
      begun b high (table.changes old k was begins higher is) sends =
          let same : k ≡ b = cc (sym begins ∙ sends) in
          ap (λ us. (newest (flipped us ++ ps)).epoch) is ∙ ap (λ (w : Key). w.epoch) same

  -- ---- all events

  -- what was told of them, on what was told before
  pub record HasGone (s : ℕ) (r : Run) (xs : Controls) (old new : ControlView) : Type 0 where
    pub points : new.points ≡ words_in settings s (current old).epoch r xs ++ old.points
    pub seats : of_seats new ≡ of_seats old

  view-told : (r : Run) (t : ℕ) (x : Happening) (old new : List ControlAt) (s : ℕ) → s < length old
      → WereTold settings r t x old new → WasTold (words_by settings r t x s (view_at old s)) (view_at old s) (view_at new s)
  view-told r t x old new s less were =
      let some = some-at new s (let many = were.many in omega (arith, less, many)) in
      let told = were.each s some.0 some.1 in
      subst (λ d. WasTold (words_by settings r t x s (view_at old s)) (view_at old s) d) (sym (ap view_in some.1))
      (subst (λ c. WasTold (words_by settings r t x s c) c some.0.view) (sym (ap view_in told.1)) told.2)

  pub gone-at : (s : ℕ) (r : Run) (xs : Controls) (steps : List Step) (old new : List ControlAt) → s < length (stations r)
      → length old ≡ length (stations r) → IsStepped settings users r → ArePerformed settings users r xs steps
      → IsPast settings s r (current (view_at old s)).epoch → epoch_at settings s r ≤ (current (view_at old s)).epoch
      → HaveGone settings r xs old new → HasGone s r xs (view_at old s) (view_at new s)
  gone-at s r [] steps old new there many stepped performed past low gone =
      subst (λ cs. HasGone s r [] (view_at old s) (view_at cs s)) (sym gone) (record { points = refl; seats = refl })
  gone-at s r ((t, x) ∷ xs) [] old new there many stepped performed past low gone = absurd performed
  gone-at s r ((t, x) ∷ xs) (kept ∷ steps) old new there many stepped performed past low gone =
      let step = performed.0.step in let own = performed.0.own in
      let mid : List ControlAt = gone.0 in
      let told = view-told r t x old mid s (omega (arith, there, many)) gone.1 in
      let places = same-places t x r own in
      let there' = subst (λ ps. s < length ps) (sym places) there in
      let many' : length mid ≡ length (stations (x ∷ r)) = gone.1.many ∙ (many ∙ ap length (sym places)) in
      elim (cases_Bool (t == s)) [
        | inl same ↦ mine own (eqb-true t s same) same told
            (λ past low. gone-at s (x ∷ r) xs steps mid new there' many' (step, stepped) performed.1 past low gone.2)
        | inr other ↦ others own other told
            (λ past low. gone-at s (x ∷ r) xs steps mid new there' many' (step, stepped) performed.1 past low gone.2)
      ]
    where
      mine : is_event_of t x.event ≡ true → t ≡ s → (t == s) ≡ true
          → WasTold (words_by settings r t x s (view_at old s)) (view_at old s) (view_at gone.0 s)
          → (IsPast settings s (x ∷ r) (current (view_at gone.0 s)).epoch → epoch_at settings s (x ∷ r) ≤ (current (view_at gone.0 s)).epoch
          → HasGone s (x ∷ r) xs (view_at gone.0 s) (view_at new s))
          → HasGone s r ((t, x) ∷ xs) (view_at old s) (view_at new s)
      mine own at same told rest =
          let c = view_at old s in
          let d = view_at gone.0 s in
          let ws : List Current = flipped (words_of s (current c).epoch (an_of (transmitting_at settings s r)) x.facts) in
          let points : d.points ≡ ws ++ c.points = told.points ∙ ap (λ b. cond b ws [] ++ c.points) same in
          let one = one-on s r x c.points stepped performed.0.step (subst (λ n. is_event_of n x.event ≡ true) at own) there past low in
          let last : (current d).epoch ≡ last_of (current c).epoch (move_at settings s (current c).epoch r x) =
          ap (λ ps. (newest ps).epoch) points ∙ one.last in
          let then = rest (subst (IsPast settings s (x ∷ r)) (sym last) one.past) (subst (λ n. epoch_at settings s (x ∷ r) ≤ n) (sym last) one.low) in
          record {
            points = then.points ∙ ((λ i. words_in settings s (last i) (x ∷ r) xs ++ points i)
                ∙ (sym (append_assoc (words_in settings s (last_of (current c).epoch (move_at settings s (current c).epoch r x)) (x ∷ r) xs) ws c.points)
                ∙ ap (λ b. cond b
                (words_in settings s (last_of (current c).epoch (move_at settings s (current c).epoch r x)) (x ∷ r) xs ++ ws)
                (words_in settings s (current c).epoch (x ∷ r) xs) ++ c.points) (sym same)));
            seats = then.seats ∙ told.seats;
          }

      others : is_event_of t x.event ≡ true → (t == s) ≡ false
          → WasTold (words_by settings r t x s (view_at old s)) (view_at old s) (view_at gone.0 s)
          → (IsPast settings s (x ∷ r) (current (view_at gone.0 s)).epoch → epoch_at settings s (x ∷ r) ≤ (current (view_at gone.0 s)).epoch
          → HasGone s (x ∷ r) xs (view_at gone.0 s) (view_at new s))
          → HasGone s r ((t, x) ∷ xs) (view_at old s) (view_at new s)
      others own other told rest =
          let c = view_at old s in
          let d = view_at gone.0 s in
          let ws : List Current = flipped (words_of s (current c).epoch (an_of (transmitting_at settings s r)) x.facts) in
          let points : d.points ≡ c.points = told.points ∙ ap (λ b. cond b ws [] ++ c.points) other in
          let last : (current d).epoch ≡ (current c).epoch = ap (λ ps. (newest ps).epoch) points in
          let lives = others-change-none settings s x r there (own-of s t x.event own ∙ other) in
          let epoch : epoch_at settings s (x ∷ r) ≡ epoch_at settings s r = ap (λ o. epoch_of (option_and_then (λ l. transmitting (keys_in l)) o)) lives in
          let then = rest (subst (IsPast settings s (x ∷ r)) (sym last) (λ l is. past l (sym lives ∙ is))) (omega (arith, epoch, last, low)) in
          record {
            points = then.points ∙ ((λ i. words_in settings s (last i) (x ∷ r) xs ++ points i)
                ∙ ap (λ b. cond b
                (words_in settings s (last_of (current c).epoch (move_at settings s (current c).epoch r x)) (x ∷ r) xs ++ ws)
                (words_in settings s (current c).epoch (x ∷ r) xs) ++ c.points) (sym other));
            seats = then.seats ∙ told.seats;
          }
