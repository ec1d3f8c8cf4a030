use Rattle.lan_core.proofs.Alike.{alike-itself}
use Rattle.lan_core.proofs.SettledPart.{alike-part}
use Rattle.lan_core.proofs.parts.law_claims_tell_packet_numbers_alone.Goals as goal

pub returns : goal.returns
returns c settings users part r stepped =
    alike-part settings users part r r stepped (alike-itself settings r)
