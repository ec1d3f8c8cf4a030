-- The words of the stations as seats go out and come back.
use Rattle.std.proofs.Common.{◌≡◌, ℕ, zero, suc, ◌+◌, Bool, true, false, cond, List, [], ◌∷◌}
use Rattle.std.proofs.Common.{Some, refl, sym, ap, ◌∙◌, subst, arith, inl, inr, length, length-set}
use Rattle.std.proofs.lemmas.Bool.{cases_Bool, eqb-false, eqb-true}
use Rattle.std.specs.List.{AllByRecursion}
use Rattle.std.specs.Prelude.{◌==◌, slice_get, slice_set}
use Rattle.association_slots.specs.Learned.{Learned}
use Rattle.association_slots.specs.Steps.{new_seat, seated, told}
use Rattle.association_slots.specs.Views.{ControlAt, In, SeatAt, count, one}
use Rattle.association_slots.specs.declared.view.Addition.{Addition}
use Rattle.association_slots.specs.declared.view.ControlView.{ControlView}
use Rattle.association_slots.specs.declared.view.Mark.{Mark}
use Rattle.association_slots.specs.declared.view.SeatView.{SeatView}
use Rattle.association_slots.proofs.Public.{in_right, weigh-append}
use Rattle.data_workers.specs.Workers.{WorkerAt}
use Rattle.lan_core.specs.declared.event.Event.{Event}
use Rattle.lan_core.specs.declared.settings.Settings.{Settings}
use Rattle.lan_core.specs.Run.{Run}
use Rattle.group_safety.specs.Accounts.{account_at, onward}
use Rattle.station_words.specs.Seats.{HasJoined, WasSeated}
use Rattle.station_words.specs.Telling.{KeepUp}
use Rattle.station_words.specs.Ties.{HaveKeptUp, IsAheadBy, KeepAhead}
use Rattle.station_words.proofs.Public.{told-more}
use Rattle.worker_races.specs.Going.{HaveJoined, WereSeated}
use Rattle.worker_races.specs.Reading.{view_in, view_at}

-- ---- where one was set

get-set : (cs : List ControlAt) (s : ℕ) (c d : ControlAt) → slice_get cs s ≡ Some c
    → slice_get (slice_set cs s d) s ≡ Some d
get-set [] s c d at = absurd (cc at)
get-set (x ∷ cs) zero c d at = refl
get-set (x ∷ cs) (suc s) c d at = get-set cs s c d at

get-other : (cs : List ControlAt) (s t : ℕ) (d : ControlAt) → (s ≡ t → ⊥)
    → slice_get (slice_set cs s d) t ≡ slice_get cs t
get-other [] s t d apart = refl
get-other (x ∷ cs) zero zero d apart = absurd (apart refl)
get-other (x ∷ cs) zero (suc t) d apart = refl
get-other (x ∷ cs) (suc s) zero d apart = refl
get-other (x ∷ cs) (suc s) (suc t) d apart = get-other cs s t d (λ e. apart (ap suc e))

view-set : (cs : List ControlAt) (s : ℕ) (c d : ControlAt) → slice_get cs s ≡ Some c → (t : ℕ)
    → view_at (slice_set cs s d) t ≡ cond (s == t) d.view (view_at cs t)
view-set cs s c d at t = elim (cases_Bool (s == t)) [
  | inl same ↦ rw same (subst (λ n. view_at (slice_set cs s d) n ≡ d.view) (eqb-true s t same) (ap view_in (get-set cs s c d at)))
  | inr other ↦ rw other (ap view_in (get-other cs s t d (eqb-false s t other)))
]

pub seated-view : (s : ℕ) (old new : List ControlAt) (seat : SeatAt) → WasSeated s old new seat → (t : ℕ)
    → view_at new t ≡ cond (s == t) (seated (view_at old t)) (view_at old t)
seated-view s old new seat was t =
    ap (λ cs. view_at cs t) was.new_is
    ∙ (view-set old s was.control (record was.control { view = seated was.control.view }) was.there t
    ∙ elim (cases_Bool (s == t)) [
      | inl same ↦ rw same (ap seated (sym (ap view_in (subst (λ n. slice_get old n ≡ Some was.control) (eqb-true s t same) was.there))))
      | inr other ↦ rw other refl
    ])

joined-view : (s : ℕ) (seat : SeatAt) (old new : List ControlAt) → HasJoined s seat old new → (t : ℕ)
    → view_at new t ≡ cond (s == t) (told (view_at old t) seat.view) (view_at old t)
joined-view s seat old new has t =
    ap (λ cs. view_at cs t) has.new_is
    ∙ (view-set old s has.control (record has.control { view = told has.control.view seat.view }) has.there t
    ∙ elim (cases_Bool (s == t)) [
      | inl same ↦ rw same (ap (λ c. told c seat.view) (sym (ap view_in (subst (λ n. slice_get old n ≡ Some has.control) (eqb-true s t same) has.there))))
      | inr other ↦ rw other refl
    ])

-- ---- seats go out

-- two views of control differ at most in the seats that are out
abbrev pub Shares : ControlView → ControlView → Type 0
Shares c d = d ≡ record c { out = d.out }

shares-itself : (c : ControlView) → Shares c c
shares-itself c = refl

shares-then : (c d e : ControlView) → Shares c d → Shares d e → Shares c e
shares-then c d e first second = second ∙ ap (λ (v : ControlView). record v { out = e.out }) first

shares-seated : (b : Bool) (c : ControlView) → Shares c (cond b (seated c) c)
shares-seated true c = refl
shares-seated false c = refl

shares-one : (s : ℕ) (old new : List ControlAt) (seat : SeatAt) → WasSeated s old new seat → (t : ℕ)
    → Shares (view_at old t) (view_at new t)
shares-one s old new seat was t =
    subst (Shares (view_at old t)) (sym (seated-view s old new seat was t)) (shares-seated (s == t) (view_at old t))

pub shares-all : (ws : List WorkerAt) (old new : List ControlAt) → WereSeated ws old new → (t : ℕ)
    → Shares (view_at old t) (view_at new t)
shares-all [] old new were t = subst (λ cs. Shares (view_at old t) (view_at cs t)) (sym were) (shares-itself (view_at old t))
shares-all (w ∷ ws) old new were t =
    shares-then (view_at old t) (view_at were.0 t) (view_at new t)
    (shares-one w.sender.station old were.0 w.seat were.1 t) (shares-all ws were.0 new were.2 t)

pub seated-many : (ws : List WorkerAt) (old new : List ControlAt) → WereSeated ws old new → length new ≡ length old
seated-many [] old new were = ap length were
seated-many (w ∷ ws) old new were =
    seated-many ws were.0 new were.2 ∙ (ap length were.1.new_is ∙ length-set old w.sender.station _)

-- the seat that a worker took, when the words were these but for seats
pub record Took (cs : List ControlAt) (w : WorkerAt) : Type 0 where
  pub view : ControlView
  pub shares : Shares (view_at cs w.sender.station) view
  pub is : w.seat.view ≡ new_seat view

pub all-took : (cs : List ControlAt) (ws : List WorkerAt) (old new : List ControlAt)
    → ((t : ℕ) → Shares (view_at cs t) (view_at old t)) → WereSeated ws old new → AllByRecursion (Took cs) ws
all-took cs [] old new shares were = tt
all-took cs (w ∷ ws) old new shares were = (
  record {
    view = were.1.control.view;
    shares = subst (Shares (view_at cs w.sender.station)) (ap view_in were.1.there) (shares w.sender.station);
    is = ap (λ (s : SeatAt). s.view) were.1.seat_is;
  },
  all-took cs ws were.0 new
      (λ t. shares-then (view_at cs t) (view_at old t) (view_at were.0 t) (shares t)
      (shares-one w.sender.station old were.0 w.seat were.1 t))
      were.2,
)

-- ---- seats come back

unfoldable pub told_all : ℕ → List WorkerAt → ControlView → ControlView
told_all t [] c = c
told_all t (w ∷ ws) c = told_all t ws (cond (w.sender.station == t) (told c w.seat.view) c)

pub joined-all : (settings : Settings) (r : Run) (ws : List WorkerAt) (old new : List ControlAt)
    → HaveJoined settings r ws old new → (t : ℕ) → view_at new t ≡ told_all t ws (view_at old t)
unfolding told_all
joined-all settings r [] old new have t = ap (λ cs. view_at cs t) have
joined-all settings r (w ∷ ws) old new have t =
    joined-all settings r ws have.0 new have.3 t
    ∙ ap (told_all t ws) (joined-view w.sender.station w.seat old have.0 have.1 t)

pub kept-joined : (settings : Settings) (r : Run) (ws : List WorkerAt) (old new : List ControlAt)
    → HaveJoined settings r ws old new → HaveKeptUp settings r old → HaveKeptUp settings r new
kept-joined settings r [] old new have up = subst (HaveKeptUp settings r) (sym have) up
kept-joined settings r (w ∷ ws) old new have up = kept-joined settings r ws have.0 new have.3 (have.2 up)

-- so do words with the step of an event
ahead-one : (settings : Settings) (q : Run) (event : Event) (s : ℕ) (seat : SeatAt) (old new : List ControlAt)
    → HasJoined s seat old new → KeepAhead settings q event old → KeepAhead settings q event new
ahead-one settings q event s seat old new has ahead = record {
  many = ap length has.new_is ∙ (length-set old s d ∙ ahead.many);
  each = λ t v at.
      let now : slice_get (slice_set old s d) t ≡ Some v = subst (λ cs. slice_get cs t ≡ Some v) has.new_is at in
      elim (cases_Bool (s == t)) [
        | inl same ↦ mine t v (eqb-true s t same) now
        | inr other ↦ ahead.each t v (sym (get-other old s t d (eqb-false s t other)) ∙ now)
      ];
}
  where
    d : ControlAt
    d = record has.control { view = told has.control.view seat.view }

    there : slice_get (slice_set old s d) s ≡ Some d
    there = get-set old s has.control d has.there

    told-one : IsAheadBy KeepUp onward settings s q event d
    told-one = let tie = ahead.each s has.control has.there in
        (tie.0, tie.1, told-more (onward s event (account_at settings s q tie.0)) has.control.view seat.view tie.2 has.learned)

    mine : (t : ℕ) (v : ControlAt) → s ≡ t → slice_get (slice_set old s d) t ≡ Some v → IsAheadBy KeepUp onward settings t q event v
    mine t v same now =
        let here : slice_get (slice_set old s d) s ≡ Some v = subst (λ n. slice_get (slice_set old s d) n ≡ Some v) (sym same) now in
        let is : d ≡ v = cc (sym there ∙ here) in
        subst (λ n. IsAheadBy KeepUp onward settings n q event v) same
        (subst (λ x. IsAheadBy KeepUp onward settings s q event x) is told-one)

pub ahead-joined : (settings : Settings) (r q : Run) (event : Event) (ws : List WorkerAt) (old new : List ControlAt)
    → HaveJoined settings r ws old new → KeepAhead settings q event old → KeepAhead settings q event new
ahead-joined settings r q event [] old new have ahead = subst (KeepAhead settings q event) (sym have) ahead
ahead-joined settings r q event (w ∷ ws) old new have ahead =
    ahead-joined settings r q event ws have.0 new have.3
    (ahead-one settings q event w.sender.station w.seat old have.0 have.1 ahead)

-- control was told more by seats
pub record Grown (c d : ControlView) : Type 0 where
  pub points : d.points ≡ c.points
  pub loads : d.loads ≡ c.loads
  pub card_words : d.card_words ≡ c.card_words
  pub over : (m : Mark) → In m c.told_over → In m d.told_over

grown-itself : (c : ControlView) → Grown c c
grown-itself c = record { points = refl; loads = refl; card_words = refl; over = λ m i. i }

grown-then : (c d e : ControlView) → Grown c d → Grown d e → Grown c e
grown-then c d e first second = record {
  points = second.points ∙ first.points;
  loads = second.loads ∙ first.loads;
  card_words = second.card_words ∙ first.card_words;
  over = λ m i. second.over m (first.over m i);
}

grown-one : (b : Bool) (c : ControlView) (v : SeatView) → Grown c (cond b (told c v) c)
grown-one true c v = record { points = refl; loads = refl; card_words = refl; over = λ m i. in_right m v.over c.told_over i }
grown-one false c v = grown-itself c

pub grown-all : (t : ℕ) (ws : List WorkerAt) (c : ControlView) → Grown c (told_all t ws c)
unfolding told_all
grown-all t [] c = grown-itself c
grown-all t (w ∷ ws) c =
    let d = cond (w.sender.station == t) (told c w.seat.view) c in
    grown-then c d (told_all t ws d) (grown-one (w.sender.station == t) c w.seat.view) (grown-all t ws d)

-- how many additions of the seats of a station meet p
unfoldable pub added : (Addition → Bool) → ℕ → List WorkerAt → ℕ
added p t [] = 0
added p t (w ∷ ws) = cond (w.sender.station == t) (count p w.seat.view.additions) 0 + added p t ws

pub told-counts : (p : Addition → Bool) (t : ℕ) (ws : List WorkerAt) (c : ControlView)
    → count p (told_all t ws c).told ≡ added p t ws + count p c.told
unfolding told_all added
told-counts p t [] c = omega arith
told-counts p t (w ∷ ws) c =
    go (w.sender.station == t) (told-counts p t ws (cond (w.sender.station == t) (told c w.seat.view) c))
  where
    go : (b : Bool) → count p (told_all t ws (cond b (told c w.seat.view) c)).told
        ≡ added p t ws + count p (cond b (told c w.seat.view) c).told
        → count p (told_all t ws (cond b (told c w.seat.view) c)).told
        ≡ (cond b (count p w.seat.view.additions) 0 + added p t ws) + count p c.told
    go true is = let both = weigh-append (λ a. one (p a)) w.seat.view.additions c.told in omega (arith, is, both)
    go false is = omega (arith, is)

-- what control knew once the seat of a worker was told, and what it knows in the end
pub record Came (after : List ControlAt) (w : WorkerAt) : Type 0 where
  pub view : ControlView
  pub learned : Learned (told view w.seat.view)
  pub grown : Grown (told view w.seat.view) (view_at after w.sender.station)

pub all-came : (settings : Settings) (r : Run) (ws : List WorkerAt) (old new : List ControlAt)
    → HaveJoined settings r ws old new → AllByRecursion (Came new) ws
all-came settings r [] old new have = tt
all-came settings r (w ∷ ws) old new have = (
  record {
    view = have.1.control.view;
    learned = have.1.learned;
    grown = subst (λ v. Grown d.view v) (sym (joined-all settings r ws have.0 new have.3 w.sender.station ∙ ap (told_all w.sender.station ws) (ap view_in at)))
        (grown-all w.sender.station ws d.view);
  },
  all-came settings r ws have.0 new have.3,
)
  where
    d : ControlAt
    d = record have.1.control { view = told have.1.control.view w.seat.view }

    at : slice_get have.0 w.sender.station ≡ Some d
    at = ap (λ cs. slice_get cs w.sender.station) have.1.new_is
        ∙ get-set old w.sender.station have.1.control d have.1.there
