-- What is told at the end behind the counts, line by line, of one key and sender, one change, one member that was
-- not ready for a key, and one member.
use Rattle.std.specs.Fmt.{digits}
use Rattle.std.specs.Prelude.{codes, flat_map, replicate}
use Rattle.hex.specs.Hex.{encode_with}
use Rattle.std.proofs.Common.{◌≡◌, ℕ, false, true, List, [], ◌∷◌, ◌++◌, Some, None, refl}
use Rattle.lan_base.specs.declared.address.Mi.{Mi}
use Rattle.lan_base.specs.declared.address.Sci.{Sci}
use Rattle.member_notes.specs.Facts.{times}
use Rattle.use_notes.specs.Uses.{counts_of}
use Rattle.use_notes.specs.declared.frame.RightFrame.{RightFrame}
use Rattle.use_notes.specs.declared.notes.Use.{Use}
use Rattle.use_notes.specs.declared.novelty.Novelty.TheVariants.{New}
use Rattle.known_keys.specs.declared.reason.Reason.TheVariants.{Unseen}
use Rattle.audit_report.specs.declared.blame.Blame.TheVariants as blames
use Rattle.audit_report.specs.declared.blame.Breach.TheVariants.{Key, Nonce}
use Rattle.audit_report.specs.declared.finding.Finding.{Finding}
use Rattle.audit_report.specs.declared.finding.Finding.TheVariants as findings
use Rattle.audit_report.specs.declared.tally.Tally.{Tally}
use Rattle.audit_report.specs.Tallies.{tally_of}
use Rattle.audit_report.specs.Told.{Told}
use Rattle.audit_report.specs.Verdicts.{Verdict, blame, breach, verdict_lines}

abbrev a : Sci
a = record { 0 = 2 ∷ 0 ∷ 0 ∷ 0 ∷ 0 ∷ 10 ∷ 0 ∷ 1 ∷ [] }

abbrev m1 : Mi
m1 = record { 0 = replicate 11 0 ++ 1 ∷ [] }

abbrev noted : Use
noted = record { key = 1; sci = a; counts = counts_of [] }

abbrev all : Verdict
all = record {
  once = Some (4, 5);
  one_key = None;
  uses = noted ∷ [];
  timed = record { noted = noted; late = 2; first_late = 24 } ∷ [];
  changes = record {
    sci = a;
    from = 1;
    to = 2;
    last = 30;
    first = 41;
    gap = 500;
    after = 3;
    behind = 1200;
  } ∷ [];
  unready = record {
    key = 2;
    group = 1;
    mi = m1;
    early = 3;
    first_early = 57;
    joining = 1;
    first_joining = 9;
    reported = 61;
  } ∷ [];
  members = record {
    group = 1;
    mi = m1;
    counts = record {
      sci = a;
      mkpdus = 40;
      again = 1;
      given = 2;
      fell = record { count = 3; first = 9 };
      servers = times [];
      returned = times [];
      high = times [];
    };
  } ∷ [];
  unknown = record { ckn = 10 ∷ []; packets = 3; first = 8 } ∷ [];
}

all_in_order : verdict_lines (tally_of []) all
    ≡ flat_map (λ (line : List ℕ). line ++ 10 ∷ []) (codes "use 1 02000000000a0001 frames 0 pn 0 0 packets 0 0 repeated 0 0 reused 0 fell 0 window 0 clear 0 late 2 24"
    ∷ codes "change 02000000000a0001 1 2 last 30 first 41 gap 500 after 3 1200"
    ∷ codes "unready 2 1 000000000000000000000001 early 3 57 joining 1 9 reported 61"
    ∷ codes "member 1 000000000000000000000001 sci 02000000000a0001 mkpdus 40 again 1 given 2 fell 3 9 servers 0 0 returned 0 0 high 0 0"
    ∷ codes "once broken 4 5"
    ∷ codes "onekey ok 0 of 0"
    ∷ codes "order fell 0 window 0 high 0"
    ∷ codes "rollover changes 1 early 3 joining 1 late 2"
    ∷ codes "mka members 1 scis 1 fell 3 servers 0 returned 0 high 0" ∷ [])
unfolding digits encode_with
all_in_order = refl

-- packets 4 and 5 share a nonce
nonce_shared : breach all ≡ Some (Nonce 4 5)
nonce_shared = refl

-- and 2 and 3 disagree on a key
nonce_before_key : breach (record all { one_key = Some (2, 3) }) ≡ Some (Nonce 4 5)
nonce_before_key = refl

key_alone : breach (record all { once = None; one_key = Some (2, 3) }) ≡ Some (Key 2 3)
key_alone = refl

-- ---- for what a capture is to blame

abbrev is_found : Finding → Told
is_found finding = record { begun = []; finding = finding; is_untimed = false }

abbrev right : RightFrame
right = record {
  packet = 1;
  key = 1;
  sci = a;
  pn = 1;
  check = 4 ∷ [];
  time = 0;
  confidential = true;
}

-- two wrong protected frames, an undecided one, and a wrong MKPDU
abbrev doubtful : Tally
doubtful = tally_of (is_found findings.WrongFrame ∷ is_found (findings.Undecided Unseen)
    ∷ is_found (findings.WrongMkpdu true) ∷ is_found findings.WrongFrame ∷ [])

-- a wrong MKPDU and a right frame
abbrev certain : Tally
certain = tally_of (is_found (findings.WrongMkpdu true) ∷ is_found (findings.RightFrame right New) ∷ [])

-- a wrong MKPDU, and a frame that is cut
abbrev unjudged : Tally
unjudged = tally_of (is_found findings.SecCut ∷ is_found (findings.WrongMkpdu true) ∷ [])

abbrev unbroken : Verdict
unbroken = record all { once = None }

doubted : blame true doubtful unbroken ≡ blames.Doubted 2 1
doubted = refl

not_strict : blame false doubtful unbroken ≡ blames.None
not_strict = refl

no_frame_doubted : blame true certain unbroken ≡ blames.None
no_frame_doubted = refl

no_frame_judged : blame true unjudged unbroken ≡ blames.NotJudged
no_frame_judged = refl

nothing_judged : blame true (tally_of []) unbroken ≡ blames.NotJudged
nothing_judged = refl

nothing_asked : blame false unjudged unbroken ≡ blames.None
nothing_asked = refl

refuted_before_doubted : blame true doubtful all ≡ blames.Refuted (Nonce 4 5)
refuted_before_doubted = refl
