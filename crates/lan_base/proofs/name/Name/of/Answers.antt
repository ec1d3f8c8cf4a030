use Rattle.std.proofs.Common.{◌≡◌, refl, sym}
use Rattle.lan_base.proofs.Padding.{IsPadded-filled}
use Rattle.lan_base.proofs.name.Name.of.Goals as goal

pub invariant_of-result : goal.invariant_of-result
invariant_of-result c =
    let copied : c.copy_from_slice.new.self ≡ c.args.word.now = c.copy_from_slice.ensures.after in
    rw copied (IsPadded-filled c.args.word.now _ (sym c.if-not-is_name.ensures) refl)
