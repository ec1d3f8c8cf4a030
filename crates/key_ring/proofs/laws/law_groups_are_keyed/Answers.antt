use Rattle.std.proofs.lemmas.List.Elements.{All-nil}
use Rattle.text_lines.specs.Texts.{lines_of}
use Rattle.audit_text.specs.Parting.{key_text}
use Rattle.aes_block.specs.Aes.{IsKey}
use Rattle.key_ring.specs.Rings.{no_ring}
use Rattle.key_ring.proofs.KeyedRings.{lines-keyed}
use Rattle.key_ring.proofs.laws.law_groups_are_keyed.Goals as goal

pub returns : goal.returns
returns c = λ text ring said.
    lines-keyed c.law_ciphertexts_are_blocks.ensures 1 (lines_of (key_text text)) no_ring ring (All-nil (λ g. IsKey g.kek)) said
