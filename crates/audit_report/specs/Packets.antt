-- The lines of a packet (this profile's own forms): its own, which says what it is, and those that tell
-- of a key that is given, of a name that was given to two, and of a packet number that is used again.
use Rattle.std.specs.Prelude.{ℕ, Bool, if◌then◌else◌, List, [], ◌∷◌, ◌++◌, codes, decimal, Option, Some, None}
use Rattle.hex.specs.Hex.{encode_lower}
use Rattle.aes_block.specs.declared.secret.Secret.{Secret}
use Rattle.capture_file.specs.Describing.{malformed_words, packet_words, tag_words}
use Rattle.known_keys.specs.declared.gives.Gives.{Gives}
use Rattle.known_keys.specs.declared.giving.NoSak.{NoSak}
use Rattle.known_keys.specs.declared.giving.NoSak.TheVariants.{OtherSuite, WrongWrap}
use Rattle.known_keys.specs.declared.reason.Reason.{Reason}
use Rattle.known_keys.specs.declared.reason.Reason.TheVariants as reasons
use Rattle.lan_base.specs.declared.association_number.AssociationNumber.{AssociationNumber}
use Rattle.lan_base.specs.declared.key_id.KeyId.{KeyId}
use Rattle.lan_base.specs.AssociationNumbers.{number_of}
use Rattle.member_notes.specs.declared.novelty.MkpduNovelty.{MkpduNovelty}
use Rattle.member_notes.specs.declared.novelty.MkpduNovelty.TheVariants as mkpdus
use Rattle.mkpdu_codec.specs.declared.offset.ConfidentialityOffset.{ConfidentialityOffset}
use Rattle.mkpdu_codec.specs.Offsets.{offset_bits}
use Rattle.packet_verdicts.specs.declared.kind.Kind.{Kind}
use Rattle.packet_verdicts.specs.declared.kind.Kind.TheVariants as kinds
use Rattle.packet_verdicts.specs.declared.kind.Malformed.TheVariants.{Long, Refused}
use Rattle.packet_verdicts.specs.declared.kind.Mka.TheVariants as mkas
use Rattle.packet_verdicts.specs.declared.kind.Sec.TheVariants as secs
use Rattle.trace_text.specs.Words.{spaced}
use Rattle.use_notes.specs.declared.frame.RightFrame.{RightFrame}
use Rattle.use_notes.specs.declared.novelty.Novelty.{Novelty}
use Rattle.use_notes.specs.declared.novelty.Novelty.TheVariants.{New, Repeated, Reused}
use Rattle.audit_report.specs.declared.finding.Finding.{Finding}
use Rattle.audit_report.specs.declared.finding.Finding.TheVariants as findings
use Rattle.audit_report.specs.declared.finding.Handed.{Handed}
use Rattle.audit_report.specs.declared.finding.Handed.TheVariants as handeds
use Rattle.audit_report.specs.Lines.{packet_line, sak_part, suite_of}

-- ---- what its line begins with

-- what a frame without its tags says of itself, or why a packet of this kind isn't told by that. Of a
-- protected frame that are the fields by which it is judged, whose SCI may be implied.
abbrev pub begun_words : List ℕ → Kind → List (List ℕ)
begun_words frame kinds.Foreign = codes "foreign" ∷ []
begun_words frame (kinds.Sec secs.Cut) = codes "sec" ∷ codes "cut" ∷ []
begun_words frame (kinds.Mka mkas.Cut) = codes "mka" ∷ codes "cut" ∷ []
begun_words frame (kinds.Sec (secs.Malformed Long)) =
    codes "sec" ∷ codes "malformed" ∷ codes "long" ∷ []
begun_words frame (kinds.Sec (secs.Malformed (Refused why))) = malformed_words why
begun_words frame (kinds.Sec (secs.Protected tag check)) = tag_words tag
begun_words frame _ = packet_words frame

-- the line of a packet before it is judged
abbrev pub begun_line : ℕ → List (List ℕ) → List ℕ
begun_line n words = codes "packet" ++ spaced (decimal n ∷ words)

-- where lines of packets are shown
abbrev pub begun_part : Bool → ℕ → List (List ℕ) → List ℕ
begun_part shows n words = if shows then begun_line n words else []

-- ---- what it is

abbrev pub novelty_words : Novelty → List (List ℕ)
novelty_words New = codes "new" ∷ []
novelty_words (Repeated first) = codes "repeated" ∷ decimal first ∷ []
novelty_words (Reused first) = codes "reused" ∷ decimal first ∷ []

abbrev pub mkpdu_words : MkpduNovelty → List (List ℕ)
mkpdu_words mkpdus.New = codes "new" ∷ []
mkpdu_words mkpdus.Fell = codes "fell" ∷ []
mkpdu_words (mkpdus.Again first) = codes "again" ∷ decimal first ∷ []

abbrev pub reason_text : Reason → List ℕ
reason_text reasons.Suite = codes "suite"
reason_text reasons.Offset = codes "offset"
reason_text reasons.Unseen = codes "unseen"
reason_text reasons.Ckn = codes "ckn"
reason_text reasons.NoKey = codes "nokey"

-- what is told of a frame behind what it says of itself
abbrev pub judged_words : Finding → List (List ℕ)
judged_words (findings.RightFrame frame novelty) =
    codes "key" ∷ decimal frame.key ∷ novelty_words novelty
judged_words (findings.Undecided why) = codes "undecided" ∷ reason_text why ∷ []
judged_words findings.WrongFrame = codes "wrong" ∷ []
judged_words (findings.Unknown gives) = codes "unknown" ∷ []
judged_words (findings.WrongMkpdu gives) = codes "wrong" ∷ []
judged_words (findings.RightMkpdu mkpdu novelty handed) =
    codes "group" ∷ decimal mkpdu.group ∷ mkpdu_words novelty
judged_words _ = []

-- ---- a key that it distributes

abbrev pub id_words : KeyId → List (List ℕ)
id_words id = encode_lower id.server.0 ∷ decimal id.number ∷ []

-- a key that is given: its number, the group's, and its identifier
abbrev pub given_words : ℕ → ℕ → KeyId → List (List ℕ)
given_words key group id =
    codes "key" ∷ decimal key ∷ codes "group" ∷ decimal group ∷ codes "ki" ∷ id_words id

-- and itself, where keys are told
abbrev pub sak_words : Bool → AssociationNumber → ConfidentialityOffset → Secret → List (List ℕ)
sak_words keys an offset sak = codes "an" ∷ decimal (number_of an) ∷ codes "suite" ∷ decimal (suite_of sak)
    ∷ codes "offset" ∷ decimal (offset_bits offset) ∷ sak_part keys sak

abbrev pub why_text : NoSak → List ℕ
why_text OtherSuite = codes "suite"
why_text WrongWrap = codes "wrap"

abbrev pub untaken_words : KeyId → NoSak → List (List ℕ)
untaken_words id why = codes "untaken" ∷ (id_words id ++ why_text why ∷ [])

-- where an identifier was given with another key or association number first
abbrev pub name_line : ℕ → KeyId → Option ℕ → List ℕ
name_line n id None = []
name_line n id (Some first) =
    packet_line n ((codes "onekey" ∷ codes "ki" ∷ id_words id) ++ (codes "first" ∷ decimal first ∷ []))

-- where a key was given under another identifier first
abbrev pub id_line : ℕ → ℕ → Option ℕ → List ℕ
id_line n key None = []
id_line n key (Some first) = packet_line n (codes "onekey" ∷ codes "sak" ∷ decimal key ∷ codes "first"
    ∷ decimal first ∷ [])

-- the first time that a key is given under its identifier and association number
abbrev pub naming_lines : ℕ → KeyId → Gives → List ℕ
naming_lines n id told =
    if told.is_new_naming then name_line n id told.other_name ++ id_line n told.key told.other_id
    else []

-- the first time that its group says so, and the first that names it so
abbrev pub handed_lines : Bool → ℕ → ℕ → Handed → List ℕ
handed_lines keys n group (handeds.Key id an offset sak told) =
    (if told.is_new then packet_line n (given_words told.key group id ++ sak_words keys an offset sak) else [])
    ++ naming_lines n id told
handed_lines keys n group (handeds.Untaken id why is_new) =
    if is_new then packet_line n (untaken_words id why) else []

-- ---- a packet number that is used again

abbrev pub reuse_lines : ℕ → RightFrame → Novelty → List ℕ
reuse_lines n frame (Reused first) = packet_line n (codes "reuse" ∷ codes "key" ∷ decimal frame.key
    ∷ codes "sci" ∷ encode_lower frame.sci.0 ∷ codes "pn" ∷ decimal frame.pn ∷ codes "first"
    ∷ decimal first ∷ [])
reuse_lines n frame _ = []

-- ---- all of a packet

-- what is told of every packet, with keys themselves or without
abbrev pub event_lines : Bool → ℕ → Finding → List ℕ
event_lines keys n (findings.RightFrame frame novelty) = reuse_lines n frame novelty
event_lines keys n (findings.RightMkpdu mkpdu novelty (Some handed)) = handed_lines keys n mkpdu.group handed
event_lines keys n _ = []

-- with its own line, which begins with these words, or without
abbrev pub finding_lines : Bool → Bool → ℕ → List (List ℕ) → Finding → List ℕ
finding_lines shows keys n words finding =
    (if shows then packet_line n (words ++ judged_words finding) else []) ++ event_lines keys n finding
