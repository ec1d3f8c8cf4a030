-- A front stays broken, and a repetition changes no pair.
use Rattle.std.proofs.Common.{◌≡◌, ◌≢◌, ◌∙◌, ◌<◌, ℕ, true, List, [], ◌∷◌, ◌++◌, Option, Some, refl, ap, subst, arith}
use Rattle.std.specs.Option.{option_or}
use Rattle.least_pairs.specs.Pairs.{IsJudged}
use Rattle.least_pairs.proofs.Public.{one-verdict, repetition-in, repetition-out}
use Rattle.use_notes.specs.declared.frame.RightFrame.{RightFrame}
use Rattle.use_notes.specs.Frames.{IsBehind, AreInOrder, same_check, novelty_in}
use Rattle.use_notes.specs.Once.{Number, number_of, noted, BreaksOnce, reuse_by, first_reuse}
use Rattle.use_notes.proofs.Numbers.{check-itself, check-turned}
use Rattle.use_notes.proofs.Judging.{noted-here, noted-other, one-more, judged}

front-order : (later h : List RightFrame) → AreInOrder (later ++ h) → AreInOrder h
front-order [] h order = order
front-order (e ∷ later) h order = front-order later h order.1

reuse-stays : (later h : List RightFrame) (pair : ℕ × ℕ) → first_reuse h ≡ Some pair
    → first_reuse (later ++ h) ≡ Some pair
reuse-stays [] h pair is = is
reuse-stays (e ∷ later) h pair is =
    ap (λ o. option_or o (reuse_by e.packet (novelty_in (later ++ h) e))) (reuse-stays later h pair is)

pub front-stays : (later h : List RightFrame) (pair : ℕ × ℕ) → AreInOrder (later ++ h)
    → IsJudged (BreaksOnce h) (Some pair) → IsJudged (BreaksOnce (later ++ h)) (Some pair)
front-stays later h pair order was =
    let is = one-verdict (BreaksOnce h) (first_reuse h) (Some pair) (judged h (front-order later h order)) was in
    subst (λ o. IsJudged (BreaksOnce (later ++ h)) o) (reuse-stays later h pair is) (judged (later ++ h) order)

below-later : (packet : ℕ) (later before : List RightFrame) (e : RightFrame)
    → IsBehind packet (later ++ e ∷ before) → e.packet < packet
below-later packet [] before e behind = behind.0
below-later packet (f ∷ later) before e behind = below-later packet later before e behind.1

noted-there : (later before : List RightFrame) (e : RightFrame) → AreInOrder (later ++ e ∷ before)
    → noted (later ++ e ∷ before) e.packet ≡ Some (number_of e, e.check)
noted-there [] before e order = noted-here e before
noted-there (f ∷ later) before e order =
    let less = below-later f.packet later before e order.0 in
    let apart : e.packet ≢ f.packet = λ is. omega (arith, is, less) in
    noted-other f (later ++ e ∷ before) e.packet apart ∙ noted-there later before e order.1

itself : (x : List ℕ) → same_check x x ≡ true
itself x = check-itself x x refl

module _ (later before : List RightFrame) (e : RightFrame) (packet time : ℕ) where
  abbrev again : RightFrame
  again = record e { packet = packet; time = time }

  pub repeated-in : AreInOrder (again ∷ later ++ e ∷ before) → (verdict : Option (ℕ × ℕ))
      → IsJudged (BreaksOnce (later ++ e ∷ before)) verdict
      → IsJudged (BreaksOnce (again ∷ later ++ e ∷ before)) verdict
  repeated-in order verdict was =
      repetition-in Number (List ℕ) same_check (noted (later ++ e ∷ before)) (noted (again ∷ later ++ e ∷ before))
      e.packet packet (number_of e) e.check itself check-turned (noted-there later before e order.1)
      (one-more again (later ++ e ∷ before) order) verdict was

  pub repeated-out : AreInOrder (again ∷ later ++ e ∷ before) → (verdict : Option (ℕ × ℕ))
      → IsJudged (BreaksOnce (again ∷ later ++ e ∷ before)) verdict
      → IsJudged (BreaksOnce (later ++ e ∷ before)) verdict
  repeated-out order verdict was =
      repetition-out Number (List ℕ) same_check (noted (later ++ e ∷ before)) (noted (again ∷ later ++ e ∷ before))
      e.packet packet (number_of e) e.check itself check-turned (noted-there later before e order.1)
      (one-more again (later ++ e ∷ before) order) verdict was
