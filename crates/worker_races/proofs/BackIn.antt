-- Once all seats came back that went out, none is out.
use Rattle.std.proofs.Common.{◌≡◌, ◌⊎◌, ◌+◌, ◌-◌, ◌==◌, ℕ, Bool, true, false, cond, List, [], ◌∷◌}
use Rattle.std.proofs.Common.{sym, ap, ◌∙◌, subst, arith, inl, inr}
use Rattle.std.proofs.lemmas.Bool.{cases_Bool, eqb-true}
use Rattle.std.specs.List.{AllByRecursion}
use Rattle.association_slots.specs.Steps.{seated, told}
use Rattle.association_slots.specs.Views.{ControlAt, SeatAt, free}
use Rattle.association_slots.specs.declared.view.ControlView.{ControlView}
use Rattle.association_slots.specs.declared.view.SeatView.{SeatView}
use Rattle.data_workers.specs.Workers.{AreDone, WorkerAt}
use Rattle.data_workers.specs.declared.sender.Sender.{Sender}
use Rattle.station_words.specs.Seats.{WasSeated, is_out}
use Rattle.station_words.proofs.Public.{set-false, set-true}
use Rattle.worker_races.specs.Going.{WereSeated}
use Rattle.worker_races.specs.Reading.{view_in, view_at}
use Rattle.worker_races.specs.Senders.{IsNew}
use Rattle.worker_races.proofs.Hands.{first-done, others-done}
use Rattle.worker_races.proofs.Seating.{seated-view, told_all}

-- the seat of a worker at a station has the number
unfoldable pub HasNumber : ℕ → ℕ → List WorkerAt → Type 0
HasNumber s i [] = ⊥
HasNumber s i (w ∷ ws) = (((w.sender.station == s) ≡ true) × (w.seat.view.number ≡ i + 1)) ⊎ HasNumber s i ws

-- ---- seats go out

out-one : (s i : ℕ) (w : WorkerAt) (old mid : List ControlAt) → WasSeated w.sender.station old mid w.seat
    → is_out (view_at mid s) i ≡ true
    → (((w.sender.station == s) ≡ true) × (w.seat.view.number ≡ i + 1)) ⊎ (is_out (view_at old s) i ≡ true)
out-one s i w old mid was is = elim (cases_Bool (w.sender.station == s)) [
  | inl same ↦ (let seen = ap (λ (b : Bool). is_out (cond b (seated (view_at old s)) (view_at old s)) i) same in
      elim (set-true (view_at old s).out (free (view_at old s).out) i (sym seen ∙ (sym view ∙ is))) [
        | inl here ↦ inl (same, number (eqb-true w.sender.station s same) here)
        | inr before ↦ inr before
      ])
  | inr other ↦ (let seen = ap (λ (b : Bool). is_out (cond b (seated (view_at old s)) (view_at old s)) i) other in
      inr (sym seen ∙ (sym view ∙ is)))
]
  where
    view : is_out (view_at mid s) i ≡ is_out (cond (w.sender.station == s) (seated (view_at old s)) (view_at old s)) i
    view = ap (λ (c : ControlView). is_out c i) (seated-view w.sender.station old mid w.seat was s)

    number : w.sender.station ≡ s → i ≡ free (view_at old s).out → w.seat.view.number ≡ i + 1
    number at here =
        let seat = ap (λ (v : SeatAt). v.view.number) was.seat_is in
        let control : view_at old w.sender.station ≡ was.control.view = ap view_in was.there in
        let place = ap (λ (n : ℕ). free (view_at old n).out) at in
        let same = ap (λ (c : ControlView). free c.out) control in
        omega (arith, seat, place, same, here)

pub out-seated : (s i : ℕ) (ws : List WorkerAt) (old new : List ControlAt) → WereSeated ws old new
    → is_out (view_at new s) i ≡ true → HasNumber s i ws ⊎ (is_out (view_at old s) i ≡ true)
unfolding HasNumber
out-seated s i [] old new were is = inr (subst (λ cs. is_out (view_at cs s) i ≡ true) were is)
out-seated s i (w ∷ ws) old new were is = elim (out-seated s i ws were.0 new were.2 is) [
  | inl later ↦ inl (inr later)
  | inr mid ↦ elim (out-one s i w old were.0 were.1 mid) [ inl here ↦ inl (inl here) | inr before ↦ inr before ]
]

-- ---- the workers go on

pub same-number : (s i : ℕ) (ws ds : List WorkerAt) → AreDone ws ds → AllByRecursion IsNew ws
    → HasNumber s i ws → HasNumber s i ds
unfolding HasNumber
same-number s i [] ds done new has = absurd has
same-number s i (w ∷ ws) [] done new has = absurd (let all = done.count in omega (arith, all))
same-number s i (w ∷ ws) (d ∷ ds) done new (inl here) =
    let first = first-done w d ws ds done in
    let log = first.logged w.seat.view new.0.logged in
    inl (ap (λ (sender : Sender). sender.station == s) first.same.sender ∙ here.0, log.number ∙ here.1)
same-number s i (w ∷ ws) (d ∷ ds) done new (inr later) =
    inr (same-number s i ws ds (others-done w d ws ds done) new.1 later)

-- ---- seats come back

back-one : (b : Bool) (i : ℕ) (c : ControlView) (v : SeatView) → is_out (cond b (told c v) c) i ≡ true
    → ((b ≡ true) × (v.number ≡ i + 1) → ⊥) × (is_out c i ≡ true)
back-one false i c v is = ((λ has. absurd (cc has.0)), is)
back-one true i c v is =
    let rest = set-false c.out (v.number - 1) i is in
    ((λ has. rest.0 (let n = has.1 in omega (arith, n))), rest.1)

pub out-joined : (s i : ℕ) (ws : List WorkerAt) (c : ControlView) → is_out (told_all s ws c) i ≡ true
    → (HasNumber s i ws → ⊥) × (is_out c i ≡ true)
unfolding HasNumber told_all
out-joined s i [] c is = ((λ has. has), is)
out-joined s i (w ∷ ws) c is =
    let rest = out-joined s i ws (cond (w.sender.station == s) (told c w.seat.view) c) is in
    let here = back-one (w.sender.station == s) i c w.seat.view rest.1 in
    ((λ has. elim has [ inl one ↦ here.0 one | inr later ↦ rest.0 later ]), here.1)
