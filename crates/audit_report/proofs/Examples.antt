-- The definitions at worked packets, and whole reports on small captures.
use Rattle.std.specs.Fmt.{digits}
use Rattle.std.specs.Prelude.{codes, flat_map, replicate}
use Rattle.hex.specs.Hex.{encode_with}
use Rattle.std.proofs.Common.{◌≡◌, ◌*◌, ℕ, true, false, List, [], ◌∷◌, ◌++◌, Option, Some, None, refl}
use Rattle.aes_block.specs.declared.secret.Secret.{Secret}
use Rattle.aes_block.specs.declared.secret.Secret.TheVariants.{S128, S256}
use Rattle.capture_packets.specs.declared.fault.CaptureFault.TheVariants as faults
use Rattle.gcm_frames.specs.Tags.{tag_in}
use Rattle.gcm_frames.specs.declared.tag.TagRefusal.TheVariants as tags
use Rattle.key_ring.specs.declared.ring.HandKey.{HandKey}
use Rattle.known_keys.specs.declared.gives.Gives.{Gives}
use Rattle.known_keys.specs.declared.giving.NoSak.TheVariants.{OtherSuite, WrongWrap}
use Rattle.known_keys.specs.declared.reason.Reason.TheVariants.{NoKey}
use Rattle.known_keys.specs.declared.sender.Sender.{Sender}
use Rattle.known_keys.specs.declared.sender.Sender.TheVariants.{Any, One}
use Rattle.lan_base.specs.declared.address.Mi.{Mi}
use Rattle.lan_base.specs.declared.address.Sci.{Sci}
use Rattle.lan_base.specs.declared.association_number.AssociationNumber.TheVariants.{An0, An3}
use Rattle.lan_base.specs.declared.key_id.KeyId.{KeyId}
use Rattle.member_notes.specs.Facts.{times}
use Rattle.member_notes.specs.declared.facts.Member.{Member}
use Rattle.member_notes.specs.declared.novelty.MkpduNovelty.TheVariants as mkpdus
use Rattle.mkpdu_codec.specs.declared.offset.ConfidentialityOffset.TheVariants as offsets
use Rattle.packet_verdicts.specs.declared.kind.Kind.TheVariants as kinds
use Rattle.packet_verdicts.specs.declared.kind.Malformed.TheVariants.{Long, Refused}
use Rattle.packet_verdicts.specs.declared.kind.Mka.TheVariants as mkas
use Rattle.packet_verdicts.specs.declared.kind.Sec.TheVariants as secs
use Rattle.use_notes.specs.declared.frame.RightFrame.{RightFrame}
use Rattle.use_notes.specs.declared.notes.Use.{Use}
use Rattle.use_notes.specs.Frames.{novelty_in}
use Rattle.use_notes.specs.Once.{first_reuse}
use Rattle.use_notes.specs.Uses.{counts_of}
use Rattle.audit_report.specs.declared.ending.Ending.TheVariants as endings
use Rattle.audit_report.specs.declared.finding.Finding.{Finding}
use Rattle.audit_report.specs.declared.finding.Finding.TheVariants as findings
use Rattle.audit_report.specs.declared.finding.Handed.{Handed}
use Rattle.audit_report.specs.declared.finding.Handed.TheVariants as handeds
use Rattle.audit_report.specs.Told.{Told}
use Rattle.audit_report.specs.Lines.{set_lines}
use Rattle.audit_report.specs.Packets.{begun_words, event_lines, finding_lines, handed_lines}
use Rattle.audit_report.specs.Tallies.{tally_of}
use Rattle.audit_report.specs.Uses.{timed_line, with_late}
use Rattle.audit_report.specs.Verdicts.{Verdict, one_key_line}
use Rattle.audit_report.specs.Report.{packet_lines, read_line, report}

-- each with its line feed
abbrev texts : List (List ℕ) → List ℕ
texts lines = flat_map (λ line. line ++ 10 ∷ []) lines

-- ---- the run of two stations who agree on a key, as a capture: nine MKPDUs, of which the fifth gives the
-- key, and a protected frame

abbrev a : Sci
a = record { 0 = 2 ∷ 0 ∷ 0 ∷ 0 ∷ 0 ∷ 10 ∷ 0 ∷ 1 ∷ [] }

abbrev m1 : Mi
m1 = record { 0 = replicate 11 0 ++ 1 ∷ [] }

abbrev key_id : ℕ → KeyId
key_id n = record { server = m1; number = n }

abbrev k3 : Secret
k3 = S128 (replicate 15 0 ++ 3 ∷ [])

abbrev told : List (List ℕ) → Finding → Told
told begun finding = record { begun = begun; finding = finding; is_untimed = false }

abbrev mkpdu : ℕ → Option Handed → Told
mkpdu n handed = told [] (findings.RightMkpdu (record { packet = n; group = 1; mi = m1; mn = n; check = replicate 16 0 })
    mkpdus.New handed)

-- key 1, the first time
abbrev first_time : Gives
first_time = record { key = 1; is_new = true; is_new_naming = true; other_name = None; other_id = None }

abbrev hands_k3 : Handed
hands_k3 = handeds.Key (key_id 1) An0 offsets.Octets0 k3 first_time

abbrev agreed : List Told
agreed =
    mkpdu 9 None ∷ mkpdu 8 None ∷ mkpdu 7 None ∷ mkpdu 6 None ∷ mkpdu 5 (Some hands_k3) ∷ mkpdu 4 None ∷ mkpdu 3 None
    ∷ mkpdu 2 None ∷ mkpdu 1 None ∷ []

-- packet, check value of one octet, and time in tenths of a second
abbrev frame : ℕ → ℕ → ℕ → RightFrame
frame n check time = record {
  packet = n;
  key = 1;
  sci = a;
  pn = 1;
  check = check ∷ [];
  time = time * 100000000;
  confidential = true;
}

-- a right frame behind others
abbrev told_frame : RightFrame → List RightFrame → Told
told_frame f before = told [] (findings.RightFrame f (novelty_in before f))

-- the member of all MKPDUs, of which the fifth gives the key
abbrev told_of_m1 : Member
told_of_m1 = record {
  group = 1;
  mi = m1;
  counts = record {
    sci = a;
    mkpdus = 9;
    again = 0;
    given = 1;
    fell = times [];
    servers = times [];
    returned = times [];
    high = times [];
  };
}

-- what is judged where the frames are all of one key and sender
abbrev judged : List RightFrame → Verdict
judged fs =
    let noted : Use = record { key = 1; sci = a; counts = counts_of fs } in record {
      once = first_reuse fs;
      one_key = None;
      uses = noted ∷ [];
      timed = record { noted = noted; late = 0; first_late = 0 } ∷ [];
      changes = [];
      unready = [];
      members = told_of_m1 ∷ [];
      unknown = [];
    }

one_frame : report false true [] (told_frame (frame 10 4 60) [] ∷ agreed) (judged (frame 10 4 60 ∷ [])) endings.Whole
    ≡ texts (codes "packet 5 key 1 group 1 ki 000000000000000000000001 1 an 0 suite 128 offset 1 sak 00000000000000000000000000000003"
    ∷ codes "read 10 whole"
    ∷ codes "packets mka 9 sec 1 other 0 foreign 0 untimed 0"
    ∷ codes "mka right 9 wrong 0 unknown 0 dropped 0 cut 0"
    ∷ codes "sec right 1 wrong 0 undecided 0 malformed 0 cut 0"
    ∷ codes "undecided suite 0 offset 0 unseen 0 ckn 0 nokey 0"
    ∷ codes "malformed version 0 mode 0 short 0 slwrong 0 long 0"
    ∷ codes "use 1 02000000000a0001 frames 1 pn 1 1 packets 10 10 repeated 0 0 reused 0 fell 0 window 0 clear 0 late 0 0"
    ∷ codes "member 1 000000000000000000000001 sci 02000000000a0001 mkpdus 9 again 0 given 1 fell 0 0 servers 0 0 returned 0 0 high 0 0"
    ∷ codes "once ok 1 of 1"
    ∷ codes "onekey ok 1 of 1"
    ∷ codes "order fell 0 window 0 high 0"
    ∷ codes "rollover changes 0 early 0 joining 0 late 0"
    ∷ codes "mka members 1 scis 1 fell 0 servers 0 returned 0 high 0" ∷ [])
unfolding digits encode_with
one_frame = refl

-- and its packet number with other octets
reused : report false true [] (told_frame (frame 11 5 61) (frame 10 4 60 ∷ []) ∷ told_frame (frame 10 4 60) [] ∷ agreed)
    (judged (frame 11 5 61 ∷ frame 10 4 60 ∷ [])) endings.Whole
    ≡ texts (codes "packet 5 key 1 group 1 ki 000000000000000000000001 1 an 0 suite 128 offset 1 sak 00000000000000000000000000000003"
    ∷ codes "packet 11 reuse key 1 sci 02000000000a0001 pn 1 first 10"
    ∷ codes "read 11 whole"
    ∷ codes "packets mka 9 sec 2 other 0 foreign 0 untimed 0"
    ∷ codes "mka right 9 wrong 0 unknown 0 dropped 0 cut 0"
    ∷ codes "sec right 2 wrong 0 undecided 0 malformed 0 cut 0"
    ∷ codes "undecided suite 0 offset 0 unseen 0 ckn 0 nokey 0"
    ∷ codes "malformed version 0 mode 0 short 0 slwrong 0 long 0"
    ∷ codes "use 1 02000000000a0001 frames 2 pn 1 1 packets 10 11 repeated 0 0 reused 1 fell 0 window 0 clear 0 late 0 0"
    ∷ codes "member 1 000000000000000000000001 sci 02000000000a0001 mkpdus 9 again 0 given 1 fell 0 0 servers 0 0 returned 0 0 high 0 0"
    ∷ codes "once broken 10 11"
    ∷ codes "onekey ok 1 of 1"
    ∷ codes "order fell 0 window 0 high 0"
    ∷ codes "rollover changes 0 early 0 joining 0 late 0"
    ∷ codes "mka members 1 scis 1 fell 0 servers 0 returned 0 high 0" ∷ [])
unfolding digits encode_with
reused = refl

-- the frame once more, 0.1 s later
repeated : timed_line (with_late (record { key = 1; sci = a; counts = counts_of (frame 11 4 61 ∷ frame 10 4 60 ∷ []) })
    (record { frames = 0; first = 0 }))
    ≡ texts (codes "use 1 02000000000a0001 frames 2 pn 1 1 packets 10 10 repeated 1 100 reused 0 fell 0 window 0 clear 0 late 0 0" ∷ [])
unfolding digits encode_with
repeated = refl

-- without its last octet
cut_off : report false true [] agreed (record (judged []) { uses = []; timed = [] }) (endings.Octet 1146 faults.Cut)
    ≡ texts (codes "packet 5 key 1 group 1 ki 000000000000000000000001 1 an 0 suite 128 offset 1 sak 00000000000000000000000000000003"
    ∷ codes "read 9 octet 1146 Cut"
    ∷ codes "packets mka 9 sec 0 other 0 foreign 0 untimed 0"
    ∷ codes "mka right 9 wrong 0 unknown 0 dropped 0 cut 0"
    ∷ codes "sec right 0 wrong 0 undecided 0 malformed 0 cut 0"
    ∷ codes "undecided suite 0 offset 0 unseen 0 ckn 0 nokey 0"
    ∷ codes "malformed version 0 mode 0 short 0 slwrong 0 long 0"
    ∷ codes "member 1 000000000000000000000001 sci 02000000000a0001 mkpdus 9 again 0 given 1 fell 0 0 servers 0 0 returned 0 0 high 0 0"
    ∷ codes "once ok 0 of 0"
    ∷ codes "onekey ok 1 of 1"
    ∷ codes "order fell 0 window 0 high 0"
    ∷ codes "rollover changes 0 early 0 joining 0 late 0"
    ∷ codes "mka members 1 scis 1 fell 0 servers 0 returned 0 high 0" ∷ [])
unfolding digits encode_with
cut_off = refl

failed : read_line 0 endings.Fault ≡ texts (codes "read 0 fault" ∷ [])
unfolding digits encode_with
failed = refl

past_the_limit : read_line 3 endings.InputLimit ≡ texts (codes "read 3 limit CaptureInput" ∷ [])
unfolding digits encode_with
past_the_limit = refl

too_many_keys : read_line 3 endings.KeyLimit ≡ texts (codes "read 3 limit Keys" ∷ [])
unfolding digits encode_with
too_many_keys = refl

-- ---- keys that are set by hand

abbrev by_hand : ℕ → Sender → Secret → HandKey
by_hand line sender sak = record { line = line; sender = sender; an = An3; sak = sak }

abbrev two_set : List (ℕ × HandKey)
two_set = (1, by_hand 1 (One a) (S128 (replicate 16 0xa1))) ∷ (2, by_hand 4 Any (S256 (replicate 32 0xb2))) ∷ []

set_by_hand : set_lines true two_set
    ≡ texts (codes "line 1 key 1 sci 02000000000a0001 an 3 suite 128 sak a1a1a1a1a1a1a1a1a1a1a1a1a1a1a1a1"
    ∷ codes "line 4 key 2 sci any an 3 suite 256 sak b2b2b2b2b2b2b2b2b2b2b2b2b2b2b2b2b2b2b2b2b2b2b2b2b2b2b2b2b2b2b2b2"
    ∷ [])
unfolding digits encode_with
set_by_hand = refl

-- where keys are not told
set_unasked : set_lines false two_set
    ≡ texts (codes "line 1 key 1 sci 02000000000a0001 an 3 suite 128" ∷ codes "line 4 key 2 sci any an 3 suite 256" ∷ [])
unfolding digits encode_with
set_unasked = refl

-- ---- the line of each packet

abbrev addresses : List ℕ
addresses = 1 ∷ 2 ∷ 3 ∷ 4 ∷ 5 ∷ 6 ∷ 7 ∷ 8 ∷ 9 ∷ 10 ∷ 11 ∷ 12 ∷ []

abbrev sealed : List ℕ
sealed = addresses ++ (0x88 ∷ 0xe5 ∷ 0x2c ∷ 4 ∷ 0 ∷ 0 ∷ 0 ∷ 1 ∷ []) ++ a.0 ++ replicate 20 0

abbrev user : List ℕ
user = addresses ++ 0x88 ∷ 0xb5 ∷ 1 ∷ []

abbrev various : List Told
various =
    record { begun = begun_words user kinds.Foreign; finding = findings.Foreign; is_untimed = true }
    ∷ told (begun_words sealed (kinds.Sec (secs.Malformed Long))) (findings.Malformed Long)
    ∷ told (begun_words (addresses ++ 0x88 ∷ 0xe5 ∷ []) (kinds.Sec (secs.Malformed (Refused tags.Short))))
    (findings.Malformed (Refused tags.Short))
    ∷ told (begun_words sealed (kinds.Sec secs.Cut)) findings.SecCut
    ∷ told (begun_words user (kinds.Mka mkas.Cut)) findings.MkaCut
    ∷ told (codes "other" ∷ []) findings.Other ∷ []

shown : packet_lines true false various
    ≡ texts (codes "packet 1 other" ∷ codes "packet 2 mka cut" ∷ codes "packet 3 sec cut"
    ∷ codes "packet 4 sec malformed short" ∷ codes "packet 5 sec malformed long" ∷ codes "packet 6 foreign" ∷ [])
unfolding digits
shown = refl

not_shown : packet_lines false true various ≡ []
not_shown = refl

counted : tally_of various ≡ record {
  all = 6;
  other = 1;
  foreign = 1;
  untimed = 1;
  mka = record {
    all = 1;
    right = 0;
    wrong = 0;
    unknown = 0;
    dropped = 0;
    cut = 1;
    distributing = 0;
    giving = 0;
  };
  sec = record {
    all = 3;
    right = 0;
    wrong = 0;
    undecided = 0;
    malformed = 2;
    cut = 1;
    reasons = record { suite = 0; offset = 0; unseen = 0; ckn = 0; no_key = 0 };
    malformations = record { version = 0; mode = 0; short = 1; sl_wrong = 0; long = 1 };
  };
}
counted = refl

-- what a protected frame says of itself
abbrev open_words : List (List ℕ)
open_words = codes "sec" ∷ codes "02000000000a0001" ∷ codes "an" ∷ codes "0" ∷ codes "pn" ∷ codes "1" ∷ codes "conf" ∷ codes "1" ∷ []

-- by the fields by which it is judged
says_its_tag : begun_words sealed (kinds.Sec (secs.Protected (tag_in sealed) (replicate 16 7))) ≡ open_words
unfolding digits encode_with
says_its_tag = refl

undecided : finding_lines true false 1 open_words (findings.Undecided NoKey)
    ≡ texts (codes "packet 1 sec 02000000000a0001 an 0 pn 1 conf 1 undecided nokey" ∷ [])
unfolding digits encode_with
undecided = refl

right : finding_lines true false 12 open_words (findings.RightFrame (frame 12 4 61) (novelty_in (frame 10 4 60 ∷ []) (frame 12 4 61)))
    ≡ texts (codes "packet 12 sec 02000000000a0001 an 0 pn 1 conf 1 key 1 repeated 10" ∷ [])
unfolding digits encode_with
right = refl

-- an MKPDU that comes again, and one that gives a key for the second time
again : finding_lines true false 7 (codes "mka" ∷ []) (findings.RightMkpdu (record { packet = 7; group = 2; mi = m1; mn = 6; check = [] })
    (mkpdus.Again 6) None)
    ≡ texts (codes "packet 7 mka group 2 again 6" ∷ [])
unfolding digits encode_with
again = refl

-- ---- keys that are given

-- key 2, under an identifier that packet 5 gave with another key, and itself given under another by packet 3
abbrev two_names : Gives
two_names = record { key = 2; is_new = true; is_new_naming = true; other_name = Some 5; other_id = Some 3 }

one_key_twice : event_lines true 8 (findings.RightMkpdu (record { packet = 8; group = 3; mi = m1; mn = 6; check = [] }) mkpdus.New
    (Some (handeds.Key (key_id 1) An3 offsets.Octets50 (S256 (replicate 31 0 ++ 7 ∷ [])) two_names)))
    ≡ texts (codes "packet 8 key 2 group 3 ki 000000000000000000000001 1 an 3 suite 256 offset 3 sak 0000000000000000000000000000000000000000000000000000000000000007"
    ∷ codes "packet 8 onekey ki 000000000000000000000001 1 first 5" ∷ codes "packet 8 onekey sak 2 first 3" ∷ [])
unfolding digits encode_with
one_key_twice = refl

given_unasked : packet_lines false false agreed
    ≡ texts (codes "packet 5 key 1 group 1 ki 000000000000000000000001 1 an 0 suite 128 offset 1" ∷ [])
unfolding digits encode_with
given_unasked = refl

-- once more: nothing is told
said_before : handed_lines true 9 3 (handeds.Key (key_id 1) An3 offsets.Octets50 k3
    (record { key = 2; is_new = false; is_new_naming = false; other_name = Some 5; other_id = Some 3 })) ≡ []
said_before = refl

other_suite : handed_lines true 4 1 (handeds.Untaken (key_id 2) OtherSuite true)
    ≡ texts (codes "packet 4 untaken 000000000000000000000001 2 suite" ∷ [])
unfolding digits encode_with
other_suite = refl

wrong_wrap : handed_lines true 4 1 (handeds.Untaken (key_id 2) WrongWrap true)
    ≡ texts (codes "packet 4 untaken 000000000000000000000001 2 wrap" ∷ [])
unfolding digits encode_with
wrong_wrap = refl

-- of MKPDUs that distribute a key, right or not, those are counted that give one
some_give : one_key_line (tally_of (told [] (findings.Unknown true) ∷ told [] (findings.WrongMkpdu true)
    ∷ told [] (findings.WrongMkpdu false) ∷ mkpdu 2 (Some (handeds.Untaken (key_id 2) OtherSuite true))
    ∷ mkpdu 1 (Some hands_k3) ∷ [])) None
    ≡ texts (codes "onekey ok 1 of 4" ∷ [])
unfolding digits encode_with
some_give = refl
