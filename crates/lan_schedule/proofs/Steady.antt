-- Deeds of control leave what was chosen, and the user frames.
use Rattle.std.proofs.Common.{◌≡◌, ◌≤◌, ◌+◌, ℕ, List, [], ◌∷◌, length, refl, ◌∙◌, arith}
use Rattle.std.specs.Prelude.{Option, Some, None, Result, Ok, Err}
use Rattle.std.specs.List.{AllByRecursion}
use Rattle.lan_core.specs.declared.event.Event.{Event}
use Rattle.lan_core.specs.declared.fact.Fact.{Fact}
use Rattle.trace_acts.specs.declared.halt.Halt.{Halt}
use Rattle.trace_acts.specs.declared.halt.Kind.{Kind}
use Rattle.lan_schedule.specs.Races.{Numbered}
use Rattle.lan_schedule.specs.World.{World, Kept}
use Rattle.lan_schedule.specs.Answers.{answer}
use Rattle.lan_schedule.specs.Acts.{Act, nothing, refuse, exceed, happen, change, seq, look, race}
use Rattle.lan_schedule.specs.Acts.{Course, Goes, Stops, and_then, perform, shown}
use Rattle.lan_schedule.specs.Acts.{world_of}
use Rattle.lan_schedule.specs.Kinds.{wrong_frame}
use Rattle.lan_schedule.specs.Lines.{act, controlled, control_act}
use Rattle.lan_schedule.specs.Lines.{unless_refused}
use Rattle.lan_schedule.specs.Standing.{IsControl}
use Rattle.lan_schedule.specs.inside.Comes.{IsSteady}
use Rattle.lan_schedule.proofs.EachDeed.{control-mild, mild-act}
use Rattle.lan_schedule.proofs.Settled.{IsMild}

-- ---- acts that change neither

abbrev KeepsChoice : Act → Type 0
KeepsChoice nothing = Unit {0}
KeepsChoice (refuse kind) = Unit {0}
KeepsChoice (exceed excess) = Unit {0}
KeepsChoice (happen event) = Unit {0}
KeepsChoice (change f) = (kept : Kept) → ((f kept).chosen ≡ kept.chosen)
    × ((f kept).begun ≡ kept.begun) × ((f kept).users ≡ kept.users)
KeepsChoice (seq first later) = KeepsChoice first × KeepsChoice later
KeepsChoice (look act) = (w : World) → KeepsChoice (act w)
KeepsChoice (race workers control) = ⊥

steady-self : (w : World) → IsSteady w w
steady-self w = record { chosen = refl; begun = refl; users = refl }

steady-then : (w v u : World) → IsSteady w v → IsSteady v u → IsSteady w u
steady-then w v u f g = record {
  chosen = g.chosen ∙ f.chosen;
  begun = g.begun ∙ f.begun;
  users = g.users ∙ f.users;
}

steady-both : (w : World) (out : Course) (g : World → Course) → IsSteady w (world_of out)
    → ((v : World) → IsSteady v (world_of (g v))) → IsSteady w (world_of (and_then out g))
steady-both w (Goes v) g f h = steady-then w v (world_of (g v)) f (h v)
steady-both w (Stops v halt) g f h = f

steady-shown : (w : World) (event : Event) (r : Result (List Fact) Halt)
    → IsSteady w (world_of (shown w event r))
steady-shown w event (Ok facts) = record { chosen = refl; begun = refl; users = refl }
steady-shown w event (Err halt) = steady-self w

steady : (act : Act) (w : World) → KeepsChoice act → IsSteady w (world_of (perform act w))
steady nothing w keeps = steady-self w
steady (refuse kind) w keeps = steady-self w
steady (exceed excess) w keeps = steady-self w
steady (happen event) w keeps = steady-shown w event (answer w event)
steady (change f) w keeps = let same = keeps w.kept in
    record { chosen = same.0; begun = same.1; users = same.2 }
steady (seq first later) w keeps =
    steady-both w (perform first w) (λ v. perform later v) (steady first w keeps.0)
    (λ v. steady later v keeps.1)
steady (look act) w keeps = steady (act w) w (keeps w)
steady (race workers control) w keeps = absurd keeps

-- ---- the acts of control

-- a mild act changes neither
mild-keeps : (a : Act) (m : ℕ) → ((n : ℕ) → m ≤ n → IsMild n a) → KeepsChoice a
mild-keeps nothing m mild = tt
mild-keeps (refuse kind) m mild = tt
mild-keeps (exceed excess) m mild = tt
mild-keeps (happen event) m mild = tt
mild-keeps (change f) m mild = λ kept.
    let aside = mild m (omega arith) kept in (aside.chosen, aside.begun, aside.users)
mild-keeps (seq first later) m mild = (
  mild-keeps first m (λ n le. (mild n le).0),
  mild-keeps later m (λ n le. (mild n le).1),
)
mild-keeps (look f) m mild = λ w. mild-keeps (f w) (m + length w.kept.users)
    (λ n le. mild n (omega (arith, le)) w (omega (arith, le)))
mild-keeps (race workers control) m mild = absurd (mild m (omega arith))

keeps-refused : (o : Option Kind) (act : Act) → KeepsChoice act → KeepsChoice (unless_refused o act)
keeps-refused None act keeps = keeps
keeps-refused (Some kind) act keeps = tt

keeps-line : (names : List (List ℕ)) (kept : Numbered) → IsControl names kept
    → KeepsChoice (controlled kept)
keeps-line names kept is = (
  λ before. (refl, refl, refl),
  λ w. keeps-refused (wrong_frame kept.deed _) (act kept.deed)
      (mild-keeps (act kept.deed) 0
      (λ n le. mild-act n kept.deed is.ranges (control-mild kept.deed is.control))),
)

keeps-lines : (names : List (List ℕ)) (control : List Numbered)
    → AllByRecursion (IsControl names) control → KeepsChoice (control_act control)
keeps-lines names [] all = tt
keeps-lines names (kept ∷ control) all =
    (keeps-line names kept all.0, keeps-lines names control all.1)

-- where deeds of control were performed, what was chosen is so still
pub control-steady : (control : List Numbered) (w : World) (names : List (List ℕ))
    → AllByRecursion (IsControl names) control
    → IsSteady w (world_of (perform (control_act control) w))
control-steady control w names all = steady (control_act control) w (keeps-lines names control all)
