-- The lines of frames that came too early or too late.
use Rattle.std.specs.Fmt.{digits}
use Rattle.std.specs.Prelude.{codes, replicate}
use Rattle.hex.specs.Hex.{encode_with}
use Rattle.std.proofs.Common.{◌≡◌, [], ◌∷◌, ◌++◌, refl}
use Rattle.use_notes.specs.Uses.{counts_of}
use Rattle.rollover_notes.specs.declared.unready.Unready.{Unready}
use Rattle.audit_report.specs.declared.uses.TimedUse.{TimedUse}
use Rattle.audit_report.specs.Readiness.{rollover_line, sums_of, unready_line}
use Rattle.audit_report.specs.Uses.{timed_line}

abbrev one : Unready
one = record {
  key = 2;
  group = 1;
  mi = record { 0 = replicate 11 0 ++ 1 ∷ [] };
  early = 3;
  first_early = 57;
  joining = 1;
  first_joining = 9;
  reported = 61;
}

abbrev late_use : TimedUse
late_use = record {
  noted = record { key = 1; sci = record { 0 = 2 ∷ 0 ∷ 0 ∷ 0 ∷ 0 ∷ 10 ∷ 0 ∷ 1 ∷ [] }; counts = counts_of [] };
  late = 2;
  first_late = 24;
}

one_unready : unready_line one
    ≡ codes "unready 2 1 000000000000000000000001 early 3 57 joining 1 9 reported 61" ++ 10 ∷ []
unfolding digits encode_with
one_unready = refl

two_late : timed_line late_use
    ≡ codes "use 1 02000000000a0001 frames 0 pn 0 0 packets 0 0 repeated 0 0 reused 0 fell 0 window 0 clear 0 late 2 24" ++ 10 ∷ []
unfolding digits encode_with
two_late = refl

summed : rollover_line 1 (sums_of (one ∷ one ∷ []) (late_use ∷ []))
    ≡ codes "rollover changes 1 early 6 joining 2 late 2" ++ 10 ∷ []
unfolding digits encode_with
summed = refl
