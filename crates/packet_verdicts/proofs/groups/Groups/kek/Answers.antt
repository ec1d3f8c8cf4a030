use Rattle.std.proofs.Common.{◌≡◌, ◌∙◌, ◌-◌, ap, map, Some}
use Rattle.std.specs.Prelude.{slice_get}
use Rattle.mka_kdf.specs.declared.group.Group.{Group}
use Rattle.packet_verdicts.specs.Groups.{GroupKeys, keys_of}
use Rattle.packet_verdicts.proofs.Mapped.{at-map}
use Rattle.packet_verdicts.proofs.groups.Groups.kek.Goals as goal

pub returns : goal.returns
returns c keys there =
    let at : slice_get (map keys_of c.self.inside.groups.items) (c.args.group - 1) ≡ Some keys =
    ap (λ gs. slice_get gs (c.args.group - 1)) c.self.view_is ∙ there in
    ap (λ (g : Group). g.kek) c.index.ensures
    ∙ ap (λ (k : GroupKeys). k.kek) (at-map keys_of c.self.inside.groups.items (c.args.group - 1) c.index.result.now keys at)
