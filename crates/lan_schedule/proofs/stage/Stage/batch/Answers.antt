use Rattle.std.proofs.Common.{◌≡◌, ◌≤◌, ◌+◌, ◌∙◌, ◌∷◌, ◌++◌, [], ℕ, List, length, length-append, arith, ap, sym, subst}
use Rattle.std.specs.Prelude.{All, map}
use Rattle.std.specs.Borrow.{Bor}
use Rattle.std.proofs.lemmas.List.{map-append, length-map}
use Rattle.std.proofs.lemmas.List.Elements.{All-push}
use Rattle.lan_base.specs.Ranges.{most_frame_octets}
use Rattle.lan_schedule.specs.inside.Batching.{AreData, IsData}
use Rattle.lan_schedule.proofs.Batching.{data-end}
use Rattle.lan_schedule.proofs.stage.Stage.batch.Goals as goal

pub loop-behind-preserved : goal.loop-behind-preserved
loop-behind-preserved c =
    let inv = c.loop-behind.invariant in
    let octets : Bor (List ℕ) = c.in-Some.octets in
    let frames : List (Bor (List ℕ)) = c.loop-behind.frames.items in
    let now = λ (frame : Bor (List ℕ)). frame.now in
    let items : c.push.new.self.items ≡ frames ++ octets ∷ [] = c.in_ok-push.ensures.items in (
      (let many = ap length items in
          let more = length-append frames (octets ∷ []) in
          omega (arith, many, more, inv.0)),
      subst (λ (l : List (Bor (List ℕ))). All (λ (frame : Bor (List ℕ)). length frame.now ≤ most_frame_octets) l)
          (sym items)
          (All-push (λ (frame : Bor (List ℕ)). length frame.now ≤ most_frame_octets) frames octets inv.1
          (rw c.in-Some.is at c.protected.ensures.short)),
      λ settings users r stands. subst (λ (l : List (Bor (List ℕ))). AreData r c.args.first (map now l)) (sym items)
          (subst (λ (l : List (List ℕ)). AreData r c.args.first l) (sym (map-append now frames (octets ∷ [])))
          (data-end r c.args.first (map now frames) octets.now (inv.2 settings users r stands)
          (subst (λ (k : ℕ). IsData r (c.args.first + k) octets.now) (sym (length-map frames now ∙ inv.0))
          (rw c.in-Some.is at c.protected.ensures.frames settings users r stands)))),
    )

pub returns-in_default-clause-short : goal.returns-in_default-clause-short
returns-in_default-clause-short c = c.loop-behind.invariant.1

pub returns-in_default-clause-frames : goal.returns-in_default-clause-frames
returns-in_default-clause-frames c = c.loop-behind.invariant.2
