-- What the maps say of the facts so far.
use Rattle.std.specs.Prelude.{ℕ, ◌≡◌, ◌-◌, nat_le, if◌then◌else◌, List, [], ◌∷◌, ◌++◌, length, slice_get, Option, Some, None, option_map, option_and_then, IsTrue, is_some}
use Rattle.std.specs.Option.{option_or}
use Rattle.std.specs.Map.{lookup}
use Rattle.std.specs.BTreeMap.{is_at}
use Rattle.std.specs.Ordering.{nat_cmp, ordering_then}
use Rattle.std.specs.declared.cmp.Ordering.{Ordering}
use Rattle.std.specs.Cmp.Lexicographic.{slice_cmp}
use Rattle.lan_base.specs.declared.address.Mi.{Mi}
use Rattle.lan_base.specs.declared.key_id.KeyId.{KeyId}
use Rattle.lan_base.specs.Identifiers.{order}
use Rattle.transcript_reader.specs.Forms.{station_of}
use Rattle.transcript_reader.specs.Facts.{Known, Tells}
use Rattle.transcript_reader.specs.Taking.{Courses, Rule}
use Rattle.transcript_reader.specs.Transcripts.{AreTaken as AreTakenBy}
use Rattle.aes_block.specs.declared.secret.Secret.{Secret}
use Rattle.aes_block.specs.declared.secret.Secret.TheVariants.{S128, S256}
use Rattle.lan_core.specs.declared.fact.Fact.{Fact}
use Rattle.lan_core.specs.declared.fact.Fact.TheVariants as shows
use Rattle.transcript_check.specs.declared.named.First.{First}
use Rattle.transcript_check.specs.declared.named.Named.{Named}
use Rattle.transcript_check.specs.declared.fault.CheckFault.{CheckFault}
use Rattle.transcript_check.specs.declared.verdict.Verdict.{Verdict}
use Rattle.transcript_check.specs.declared.fault.CheckFault.TheVariants.{Unread, Doubled, Orphan}
use Rattle.least_pairs.specs.Pairs.{IsJudged, IsFound}
use Rattle.transcript_check.specs.Judged.{BreaksOnce, BreaksOneKey, Use, uses, names, sak_in, fact_at, missed_in}

-- the place of a station, which tells its group too, and an epoch
abbrev pub pair_cmp : ℕ × ℕ → ℕ × ℕ → Ordering
pair_cmp a b = ordering_then (nat_cmp a.0 b.0) (nat_cmp a.1 b.1)

abbrev pub id_cmp : Mi × ℕ → Mi × ℕ → Ordering
id_cmp a b = ordering_then (order a.0 b.0) (nat_cmp a.1 b.1)

-- a station and the octets of a SAK
abbrev pub sak_cmp : ℕ × List ℕ → ℕ × List ℕ → Ordering
sak_cmp a b = ordering_then (nat_cmp a.0 b.0) (slice_cmp nat_cmp a.1 b.1)

-- a place and an epoch, and a packet number
abbrev pub turn_cmp : (ℕ × ℕ) × ℕ → (ℕ × ℕ) × ℕ → Ordering
turn_cmp a b = ordering_then (pair_cmp a.0 b.0) (nat_cmp a.1 b.1)

-- the claims of a station under one SAK: the place and the epoch of the first of them, and the numbers of
-- the lines that used packet numbers from its own on, one after another as far as none is missing
pub record Lines : Type 0 where
  pub place : ℕ
  pub epoch : ℕ
  pub first : ℕ
  pub run : List ℕ

-- after one claim
abbrev pub fresh : ℕ → ℕ → ℕ → ℕ → Lines
fresh place epoch pn number = record { place = place; epoch = epoch; first = pn; run = number ∷ [] }

-- those of each station and each SAK of one length
abbrev pub LinesBySak : Type 0
LinesBySak = List ((ℕ × List ℕ) × Lines)

-- the lines of the other claims, by the place and the epoch of the first claim under their SAK, and packet
-- number
abbrev pub Aside : Type 0
Aside = List (((ℕ × ℕ) × ℕ) × ℕ)

-- by place and epoch, the octets of the SAK that the station installed, of either length
pub record Saks : Type 0 where
  pub narrow : List ((ℕ × ℕ) × List ℕ)
  pub wide : List ((ℕ × ℕ) × List ℕ)

abbrev pub octets_under : List ((ℕ × ℕ) × List ℕ) → ℕ → ℕ → Option (List ℕ)
octets_under saks s epoch = lookup (is_at (pair_cmp (s, epoch))) saks

abbrev pub sak_of : Option (List ℕ) → Option (List ℕ) → Option Secret
sak_of (Some octets) wide = Some (S128 octets)
sak_of None wide = option_map (λ octets. S256 octets) wide

abbrev pub sak_under : Saks → ℕ → ℕ → Option Secret
sak_under saks s epoch = sak_of (octets_under saks.narrow s epoch) (octets_under saks.wide s epoch)

-- under each place and epoch there is the SAK of the first install that these facts tell
abbrev pub AreSaksOf : List Fact → Saks → Type 0
AreSaksOf facts saks = (s epoch : ℕ) → sak_under saks s epoch ≡ sak_in facts s epoch

-- what is kept
pub record Maps : Type 0 where
  pub count : ℕ
  pub missed : ℕ
  pub once : Option (ℕ × ℕ)
  pub one_key : Option (ℕ × ℕ)
  pub epochs : Saks
  pub keys : List ((Mi × ℕ) × First)
  pub narrow : LinesBySak
  pub wide : LinesBySak
  pub aside : Aside

abbrev pub sak_at : Maps → ℕ → ℕ → Option Secret
sak_at m s epoch = sak_under m.epochs s epoch

-- what a first install said, where its SAK is found
abbrev pub said_first : Saks → First → Option (ℕ × Named)
said_first saks first =
    option_map (λ sak. (first.number, record { an = first.an; sak = sak }))
    (sak_under saks first.station first.epoch)

abbrev pub key_at : Maps → KeyId → Option First
key_at m id = lookup (is_at (id_cmp (id.server, id.number))) m.keys

abbrev pub first_of : Maps → KeyId → Option (ℕ × Named)
first_of m id = option_and_then (said_first m.epochs) (key_at m id)

abbrev pub in_run : ℕ → List ℕ → ℕ → Option ℕ
in_run first run pn = if nat_le first pn then slice_get run (pn - first) else None

abbrev pub aside_at : Aside → ℕ → ℕ → ℕ → Option ℕ
aside_at aside s epoch pn = lookup (is_at (turn_cmp ((s, epoch), pn))) aside

abbrev pub line_in : Lines → Aside → ℕ → Option ℕ
line_in own aside pn = option_or (in_run own.first own.run pn) (aside_at aside own.place own.epoch pn)

abbrev pub own_at : LinesBySak → ℕ × List ℕ → Option Lines
own_at lines key = lookup (is_at (sak_cmp key)) lines

abbrev pub own_in : LinesBySak → LinesBySak → ℕ → Secret → Option Lines
own_in narrow wide s (S128 octets) = own_at narrow (s, octets)
own_in narrow wide s (S256 octets) = own_at wide (s, octets)

abbrev pub own_by : Maps → ℕ → Secret → Option Lines
own_by m s sak = own_in m.narrow m.wide s sak

abbrev pub line_by : Maps → ℕ → ℕ → Secret → Option ℕ
line_by m s pn sak = option_and_then (λ own. line_in own m.aside pn) (own_by m s sak)

-- what names a place and an epoch names a SAK that was installed: a first install, the claims under a
-- SAK, which is that one, and claims out of turn, which have such claims before them
pub record AreBound (epochs : Saks) (keys : List ((Mi × ℕ) × First)) (narrow wide : LinesBySak)
    (aside : Aside) : Type 0 where
  pub installed : (id : KeyId) (first : First)
      → lookup (is_at (id_cmp (id.server, id.number))) keys ≡ Some first
      → IsTrue (is_some (sak_under epochs first.station first.epoch))
  pub owned : (s : ℕ) (sak : Secret) (own : Lines) → own_in narrow wide s sak ≡ Some own
      → (station_of own.place ≡ s) × (sak_under epochs own.place own.epoch ≡ Some sak)
  pub behind : (s epoch pn line : ℕ) → aside_at aside s epoch pn ≡ Some line
      → (sak : Secret) × (own : Lines) × (own_in narrow wide (station_of s) sak ≡ Some own)
      × (own.place ≡ s) × (own.epoch ≡ epoch)

abbrev pub IsBound : Maps → Type 0
IsBound m = AreBound m.epochs m.keys m.narrow m.wide m.aside

abbrev pub line_of : Maps → Use → Option (ℕ × Unit {0})
line_of m u = option_map (λ n. (n, tt)) (line_by m u.station u.pn u.sak)

-- a claim is of an epoch under which its station installed a key
abbrev pub IsOfEpoch : List Fact → Fact → Type 0
IsOfEpoch facts (shows.Claimed s an epoch pn) = IsTrue (is_some (sak_in facts s epoch))
IsOfEpoch facts _ = Unit {0}

pub record StandsFor (facts : List Fact) (m : Maps) : Type 0 where
  pub count : m.count ≡ length facts
  pub missed : m.missed ≡ missed_in facts
  pub once : IsJudged (BreaksOnce facts) m.once
  pub one_key : IsJudged (BreaksOneKey facts) m.one_key
  pub epochs : AreSaksOf facts m.epochs
  pub keys : m.one_key ≡ None → (id : KeyId) → IsFound KeyId Named (names facts) id (first_of m id)
  pub uses : m.once ≡ None → (u : Use) → IsFound Use (Unit {0}) (uses facts) u (line_of m u)
  pub known : (number : ℕ) (fact : Fact) → fact_at facts number ≡ Some fact → IsOfEpoch facts fact
  pub bound : IsBound m

-- ---- refusals

-- why a fact is refused after these
abbrev pub no_epoch : Option Secret → Option CheckFault
no_epoch None = Some Orphan
no_epoch (Some sak) = None

abbrev pub refusal : List Fact → Fact → Option CheckFault
refusal facts (shows.Installed s id an epoch sak) = option_map (λ _. Doubled) (sak_in facts s epoch)
refusal facts (shows.Claimed s an epoch pn) = no_epoch (sak_in facts s epoch)
refusal facts _ = None

abbrev pub Refuses : List Fact → Fact → CheckFault → Type 0
Refuses facts fact why = refusal facts fact ≡ Some why

-- ---- the verdict

pub record IsVerdict (facts : List Fact) (verdict : Verdict) : Type 0 where
  pub once : IsJudged (BreaksOnce facts) verdict.once
  pub one_key : IsJudged (BreaksOneKey facts) verdict.one_key
  pub missed : verdict.missed ≡ missed_in facts

-- ---- lines

-- what is known from the lines, and what is kept of the facts
pub record Standing : Type 0 where
  pub known : Known
  pub maps : Maps

-- after lines from which this is known, and that told these facts
abbrev pub IsCheckOf : Known → List Fact → Standing → Type 0
IsCheckOf known facts check = (check.known ≡ known) × StandsFor facts check.maps

-- a line was taken: it tells a fact, the fact is not refused, and it counts from now on
pub record IsLineTaken (known : Known) (facts : List Fact) (line : List ℕ) (now : Standing) : Type 0
  where
    pub after : Known
    pub fact : Fact
    pub tells : Tells known line after fact
    pub free : refusal facts fact ≡ None
    pub stands : IsCheckOf after (facts ++ fact ∷ []) now

-- a line is to be refused: it tells no fact, or the fact is refused
abbrev pub IsDenied : Known → List Fact → List ℕ → CheckFault → Type 0
IsDenied known facts line Unread =
    (after : Known) (fact : Fact) → Tells known line after fact → ⊥
IsDenied known facts line Doubled =
    (after : Known) × (fact : Fact) × Tells known line after fact
    × (refusal facts fact ≡ Some Doubled)
IsDenied known facts line Orphan =
    (after : Known) × (fact : Fact) × Tells known line after fact
    × (refusal facts fact ≡ Some Orphan)

-- a line is to be taken: it tells a fact, and the fact is not refused
abbrev pub IsDue : Known → List Fact → List ℕ → Type 0
IsDue known facts line =
    (after : Known) × (fact : Fact) × Tells known line after fact × (refusal facts fact ≡ None)

-- by which rule lines are taken, one after another
abbrev pub by_epochs : Rule CheckFault
by_epochs = record { Free = λ facts fact. refusal facts fact ≡ None; Denies = IsDenied }

-- lines that are taken one after another, from what is known, and facts, to what is known then, and others
abbrev pub AreTaken : Known → List Fact → List (List ℕ) → Known → List Fact → Type 0
AreTaken = AreTakenBy by_epochs

-- the taker stands for the facts that it took; there is no outlet that could fail
abbrev pub without_outlet : {T K : Type 0} → (List Fact → T → Type 0) → Courses T K
without_outlet Stands = record {
  Took = λ first facts now. Stands facts now.taker;
  Broke = λ first facts now. Unit {0};
  Cut = λ first facts now. ⊥;
}
