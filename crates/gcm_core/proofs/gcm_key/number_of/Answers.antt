use Rattle.std.proofs.Common.{◌≡◌, length, ap, ◌∙◌, rules}
use Rattle.std.proofs.lemmas.List.Elements.{All-from_get_or}
use Rattle.std.specs.List.{All}
use Rattle.gcm_core.specs.Blocks.{block_octets}
use Rattle.gcm_core.proofs.Octets.{IsOctet, block_octets-read}
use Rattle.gcm_core.proofs.gcm_key.number_of.Goals as goal

pub returns : goal.returns
returns c =
    let block = c.args.block in
    let len : length block ≡ 16 = search rules in
    let small : All IsOctet block = All-from_get_or IsOctet block 0 (λ i h. search rules) in
    ap block_octets c.from_be_bytes.ensures ∙ block_octets-read block len small
