use Rattle.std.proofs.Common.{ℕ, List, subst}
use Rattle.capture_file.specs.Records.{IsFileOf, file_of}
use Rattle.lan_core.specs.declared.fact.Fact.TheVariants.{Framed}
use Rattle.std.proofs.Common.{[], ◌∷◌}
use Rattle.transcript_capture.specs.Packets.{packets}
use Rattle.transcript_capture.specs.inside.Parts.{packets-append}
use Rattle.transcript_capture.proofs.PacketsOf.{octets-are, packets-short}
use Rattle.transcript_capture.proofs.laws.law_frames_are_packets.Goals as goal

pub returns : goal.returns
returns c = record {
  whole = λ facts short. subst (λ (l : List (List ℕ)). IsFileOf l (file_of (packets facts))) (octets-are facts)
      (c.law_capture.ensures.packets (packets facts) (packets-short facts short));
  times = λ earlier later k s sec octets. packets-append [] earlier (Framed k s sec octets ∷ later);
}
