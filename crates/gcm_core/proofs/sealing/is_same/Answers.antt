use Rattle.std.proofs.Common.{sym, ap, ◌∙◌}
use Rattle.std.proofs.lemmas.Bool.{eqb-true, eq-eqb}
use Rattle.std.proofs.lemmas.List.Elements.{All-from_get_or}
use Rattle.std.specs.List.{All}
use Rattle.std.specs.Int.{w128, from_be_bytes}
use Rattle.gcm_core.proofs.Octets.{IsOctet}
use Rattle.gcm_core.proofs.Tags.{same_from_numbers}
use Rattle.gcm_core.proofs.sealing.is_same.Goals as goal

pub returns : goal.returns
returns c =
    let found = c.args.found.now in
    let tag = c.args.tag.now in
    let found_octets : All IsOctet found = All-from_get_or IsOctet found 0 (λ i h. c.fits-found i) in
    let tag_octets : All IsOctet tag = All-from_get_or IsOctet tag 0 (λ i h. c.fits-tag i) in (
      (λ yes. same_from_numbers found tag c.told-found c.told-tag found_octets tag_octets
          (sym c.from_be_bytes.ensures ∙ eqb-true c.from_be_bytes.result c.from_be_bytes-2.result yes ∙ c.from_be_bytes-2.ensures)),
      (λ e. eq-eqb c.from_be_bytes.result c.from_be_bytes-2.result
          (c.from_be_bytes.ensures ∙ ap (from_be_bytes w128) e ∙ sym c.from_be_bytes-2.ensures)),
    )
