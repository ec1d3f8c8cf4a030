use Rattle.std.proofs.Common.{[], ◌∷◌, ◌++◌, sym, ap, ◌∙◌, append_assoc}
use Rattle.std.proofs.lemmas.List.{append-nil}
use Rattle.std.specs.List.{range_with_len}
use Rattle.twin_schedule.proofs.Looking.{places-more}
use Rattle.twin_schedule.proofs.moves.put_places.Goals as goal

pub loop-place-init : goal.loop-place-init
loop-place-init c = sym (append-nil c.args.into.now.items)

pub loop-place-preserved : goal.loop-place-preserved
loop-place-preserved c =
    c.in_ok-push.ensures.items
    ∙ ap (λ l. l ++ c.loop-place.place ∷ []) c.loop-place.invariant
    ∙ append_assoc c.args.into.now.items (range_with_len 0 c.loop-place.place) (c.loop-place.place ∷ [])
    ∙ ap (λ l. c.args.into.now.items ++ l) (sym (places-more c.loop-place.place))
