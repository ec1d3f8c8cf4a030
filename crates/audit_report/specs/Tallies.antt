-- How many packets there are of each kind.
use Rattle.std.specs.Prelude.{Bool, true, false, List, map, length, count_by, Some}
use Rattle.std.specs.Option.{is_some}
use Rattle.gcm_frames.specs.declared.tag.TagRefusal.TheVariants as tags
use Rattle.packet_verdicts.specs.declared.kind.Malformed.{Malformed}
use Rattle.packet_verdicts.specs.declared.kind.Malformed.TheVariants.{Long, Refused}
use Rattle.audit_report.specs.declared.finding.Finding.{Finding}
use Rattle.audit_report.specs.declared.finding.Finding.TheVariants as findings
use Rattle.audit_report.specs.declared.finding.Handed.TheVariants as handeds
use Rattle.known_keys.specs.declared.reason.Reason.{Reason}
use Rattle.known_keys.specs.declared.reason.Reason.TheVariants.{Suite, Offset, Unseen, Ckn, NoKey}
use Rattle.audit_report.specs.declared.tally.UndecidedCounts.{UndecidedCounts}
use Rattle.audit_report.specs.declared.tally.Malformations.{Malformations}
use Rattle.audit_report.specs.declared.tally.SecCounts.{SecCounts}
use Rattle.audit_report.specs.declared.tally.MkaCounts.{MkaCounts}
use Rattle.audit_report.specs.declared.tally.Tally.{Tally}
use Rattle.audit_report.specs.Told.{Told}

-- ---- protected frames

abbrev pub is_right_frame : Finding → Bool
is_right_frame (findings.RightFrame frame novelty) = true
is_right_frame _ = false

abbrev pub is_wrong_frame : Finding → Bool
is_wrong_frame findings.WrongFrame = true
is_wrong_frame _ = false

abbrev pub is_undecided : Finding → Bool
is_undecided (findings.Undecided why) = true
is_undecided _ = false

abbrev pub is_malformed : Finding → Bool
is_malformed (findings.Malformed why) = true
is_malformed _ = false

abbrev pub is_sec_cut : Finding → Bool
is_sec_cut findings.SecCut = true
is_sec_cut _ = false

-- a frame with the EtherType of MACsec
abbrev pub is_sec : Finding → Bool
is_sec findings.SecCut = true
is_sec (findings.Malformed why) = true
is_sec (findings.RightFrame frame novelty) = true
is_sec (findings.Undecided why) = true
is_sec findings.WrongFrame = true
is_sec _ = false

abbrev pub same_reason : Reason → Reason → Bool
same_reason Suite Suite = true
same_reason Offset Offset = true
same_reason Unseen Unseen = true
same_reason Ckn Ckn = true
same_reason NoKey NoKey = true
same_reason _ _ = false

abbrev pub is_for : Reason → Finding → Bool
is_for reason (findings.Undecided why) = same_reason why reason
is_for reason _ = false

abbrev pub same_malformed : Malformed → Malformed → Bool
same_malformed Long Long = true
same_malformed (Refused tags.NotSec) (Refused tags.NotSec) = true
same_malformed (Refused tags.Version) (Refused tags.Version) = true
same_malformed (Refused tags.Mode) (Refused tags.Mode) = true
same_malformed (Refused tags.Short) (Refused tags.Short) = true
same_malformed (Refused tags.SlWrong) (Refused tags.SlWrong) = true
same_malformed _ _ = false

abbrev pub is_because : Malformed → Finding → Bool
is_because reason (findings.Malformed why) = same_malformed why reason
is_because reason _ = false

-- ---- frames of key agreement

abbrev pub is_right_mkpdu : Finding → Bool
is_right_mkpdu (findings.RightMkpdu mkpdu novelty handed) = true
is_right_mkpdu _ = false

abbrev pub is_wrong_mkpdu : Finding → Bool
is_wrong_mkpdu (findings.WrongMkpdu gives) = true
is_wrong_mkpdu _ = false

abbrev pub is_unknown : Finding → Bool
is_unknown (findings.Unknown gives) = true
is_unknown _ = false

abbrev pub is_dropped : Finding → Bool
is_dropped (findings.Dropped refusal) = true
is_dropped _ = false

abbrev pub is_mka_cut : Finding → Bool
is_mka_cut findings.MkaCut = true
is_mka_cut _ = false

-- a frame of key agreement
abbrev pub is_mka : Finding → Bool
is_mka findings.MkaCut = true
is_mka (findings.Dropped refusal) = true
is_mka (findings.Unknown gives) = true
is_mka (findings.WrongMkpdu gives) = true
is_mka (findings.RightMkpdu mkpdu novelty handed) = true
is_mka _ = false

-- an MKPDU with a Distributed SAK, right or not
abbrev pub distributes : Finding → Bool
distributes (findings.Unknown gives) = gives
distributes (findings.WrongMkpdu gives) = gives
distributes (findings.RightMkpdu mkpdu novelty handed) = is_some handed
distributes _ = false

-- a right MKPDU that gives a SAK
abbrev pub gives_sak : Finding → Bool
gives_sak (findings.RightMkpdu mkpdu novelty (Some (handeds.Key id an offset sak told))) = true
gives_sak _ = false

-- ---- others

abbrev pub is_other : Finding → Bool
is_other findings.Other = true
is_other _ = false

abbrev pub is_foreign : Finding → Bool
is_foreign findings.Foreign = true
is_foreign _ = false

-- ---- counts

abbrev pub undecided_counts : List Finding → UndecidedCounts
undecided_counts fs = record {
  suite = count_by (is_for Suite) fs;
  offset = count_by (is_for Offset) fs;
  unseen = count_by (is_for Unseen) fs;
  ckn = count_by (is_for Ckn) fs;
  no_key = count_by (is_for NoKey) fs;
}

abbrev pub malformations : List Finding → Malformations
malformations fs = record {
  version = count_by (is_because (Refused tags.Version)) fs;
  mode = count_by (is_because (Refused tags.Mode)) fs;
  short = count_by (is_because (Refused tags.Short)) fs;
  sl_wrong = count_by (is_because (Refused tags.SlWrong)) fs;
  long = count_by (is_because Long) fs;
}

abbrev pub sec_counts : List Finding → SecCounts
sec_counts fs = record {
  all = count_by is_sec fs;
  right = count_by is_right_frame fs;
  wrong = count_by is_wrong_frame fs;
  undecided = count_by is_undecided fs;
  malformed = count_by is_malformed fs;
  cut = count_by is_sec_cut fs;
  reasons = undecided_counts fs;
  malformations = malformations fs;
}

abbrev pub mka_counts : List Finding → MkaCounts
mka_counts fs = record {
  all = count_by is_mka fs;
  right = count_by is_right_mkpdu fs;
  wrong = count_by is_wrong_mkpdu fs;
  unknown = count_by is_unknown fs;
  dropped = count_by is_dropped fs;
  cut = count_by is_mka_cut fs;
  distributing = count_by distributes fs;
  giving = count_by gives_sak fs;
}

-- ---- all

abbrev pub findings_of : List Told → List Finding
findings_of told = map (λ t. t.finding) told

-- of what is told of packets
abbrev pub tally_of : List Told → Tally
tally_of told = record {
  all = length told;
  other = count_by is_other (findings_of told);
  foreign = count_by is_foreign (findings_of told);
  untimed = count_by (λ t. t.is_untimed) told;
  mka = mka_counts (findings_of told);
  sec = sec_counts (findings_of told);
}
