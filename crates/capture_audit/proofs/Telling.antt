-- What settling a packet adds to the lines.
use Rattle.std.proofs.Common.{◌≡◌, ◌∙◌, ◌+◌, ℕ, Bool, List, [], ◌∷◌, ◌++◌, sym, ap, arith, append_assoc}
use Rattle.std.specs.Prelude.{map}
use Rattle.std.proofs.lemmas.List.{reverse-append}
use Rattle.std.proofs.lemmas.List.Elements.{All-head}
use Rattle.audit_report.specs.Lines.{set_lines}
use Rattle.audit_report.specs.Packets.{begun_words, finding_lines}
use Rattle.audit_report.specs.Report.{packet_lines}
use Rattle.audit_report.specs.declared.finding.Finding.{Finding}
use Rattle.capture_packets.specs.Packets.{Seen}
use Rattle.key_ring.specs.Rings.{Ring}
use Rattle.packet_verdicts.specs.Frames.{frame_of}
use Rattle.packet_verdicts.specs.Kinds.{packet_kind}
use Rattle.capture_audit.specs.declared.asks.Asks.{Asks}
use Rattle.capture_audit.specs.declared.auditor.Auditor.{Auditor}
use Rattle.capture_audit.specs.Before.{IsUnwrapped, Unwrapped, number_behind}
use Rattle.capture_audit.specs.Findings.{finding}
use Rattle.capture_audit.specs.Telling.{all_told, numbered_hand}
use Rattle.capture_audit.specs.inside.Batches.{IsTold}
use Rattle.capture_audit.specs.inside.Keeping.{IsSettled}
use Rattle.capture_audit.proofs.Behind.{told-length}
use Rattle.capture_audit.proofs.Quiet.{quiet-behind}

module _ (asks : Asks) (ring : Ring) (before : List Unwrapped) (packet : Seen) where
  pub told-more : (it : Finding) (new : Auditor) (text text_then : List ℕ) → IsSettled ring before packet it new
      → text_then ≡ text ++ finding_lines asks.shows asks.keys (number_behind before)
      (begun_words (frame_of packet.octets) (packet_kind ring.groups packet)) it
      → IsTold asks ring before packet new text text_then
  told-more it new text text_then done is =
      let u : Unwrapped = record { packet = packet; gift = done.gift } in
      let words = begun_words (frame_of packet.octets) (packet_kind ring.groups packet) in
      let told = packet_lines asks.shows asks.keys (all_told ring before) in
      let set = set_lines asks.keys (numbered_hand ring) in
      let number = ap (λ n. n + 1) (told-length ring before) in
      let unwrapped = All-head (IsUnwrapped ring) u before done.keeps.unwrapped in
      record {
        now = u ∷ before;
        all = reverse-append (packet ∷ []) (map (λ (u : Unwrapped). u.packet) before);
        keeps = done.keeps;
        quiet = λ quiet. quiet-behind ring before u unwrapped quiet;
        number = omega arith;
        lines = λ written so.
            ap (λ (xs : List ℕ). written ++ xs)
            (is ∙ ap (λ (f : Finding). text ++ finding_lines asks.shows asks.keys (number_behind before) words f) done.told_is)
            ∙ sym (append_assoc written text (finding_lines asks.shows asks.keys (number_behind before) words (finding ring before u)))
            ∙ ap (λ (xs : List ℕ). xs ++ finding_lines asks.shows asks.keys (number_behind before) words (finding ring before u)) so
            ∙ append_assoc set told (finding_lines asks.shows asks.keys (number_behind before) words (finding ring before u))
            ∙ ap (λ n. set ++ (told ++ finding_lines asks.shows asks.keys n words (finding ring before u))) (sym number);
      }
