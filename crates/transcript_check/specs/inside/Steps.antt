-- How the maps change, one fact after the other.
use Rattle.std.specs.Prelude.{ℕ, ◌≡◌, ◌≢◌, ◌⊎◌, ◌+◌, true, if◌then◌else◌, List, [], ◌∷◌, ◌++◌, Option, Some, None, Result, Ok, Err, is_ok, min, option_and_then}
use Rattle.std.specs.BTreeMap.{insert_entry, is_at}
use Rattle.std.specs.Map.{remove_entry}
use Rattle.lan_base.specs.declared.key_id.KeyId.{KeyId}
use Rattle.aes_block.specs.declared.secret.Secret.{Secret}
use Rattle.aes_block.specs.declared.secret.Secret.TheVariants.{S128, S256}
use Rattle.lan_core.specs.declared.fact.Fact.{Fact}
use Rattle.lan_core.specs.declared.fact.Fact.TheVariants as shows
use Rattle.transcript_reader.specs.Forms.{station_of}
use Rattle.transcript_check.specs.declared.named.Named.{Named}
use Rattle.transcript_check.specs.declared.fault.CheckError.{CheckError}
use Rattle.transcript_check.specs.declared.fault.CheckError.TheVariants.{Refused, Memory}
use Rattle.transcript_check.specs.declared.fault.CheckFault.TheVariants.{Doubled, Orphan}
use Rattle.transcript_check.specs.Judged.{is_missed, same_named}
use Rattle.transcript_check.specs.Standing.{Maps, Lines, LinesBySak, Aside, Saks, IsBound, StandsFor, aside_at, first_of, fresh, line_in, line_by, own_at, pair_cmp, refusal, sak_at, sak_under}

-- nothing but what is found under this key is changed
pub record KeyIsPut (number : ℕ) (id : KeyId) (named : Named) (old new : Maps) : Type 0 where
  pub count : new.count ≡ old.count
  pub missed : new.missed ≡ old.missed
  pub once : new.once ≡ old.once
  pub one_key : new.one_key ≡ old.one_key
  pub epochs : new.epochs ≡ old.epochs
  pub narrow : new.narrow ≡ old.narrow
  pub wide : new.wide ≡ old.wide
  pub aside : new.aside ≡ old.aside
  pub here : first_of new id ≡ Some (number, named)
  pub others : (other : KeyId) → other ≢ id → first_of new other ≡ first_of old other
  pub bound : IsBound old → IsBound new

abbrev pub IsNamed : ℕ → KeyId → Named → Maps → Maps → Option (ℕ × ℕ) → Option (ℕ × Named) → Type 0
IsNamed number id named old new (Some pair) first = new ≡ old
IsNamed number id named old new None None = KeyIsPut number id named old new
IsNamed number id named old new None (Some nv) =
    new ≡ (if same_named nv.1 named then old else record old { one_key = Some (nv.0, number) })

-- a claim more under a SAK: its line is found by its packet number, and what is found by others, and
-- under other places and epochs, is as it was
pub record IsMore (pn number : ℕ) (own : Lines) (aside : Aside) (after : Lines) (now : Aside)
    : Type 0 where
  pub place : after.place ≡ own.place
  pub epoch : after.epoch ≡ own.epoch
  pub here : line_in after now pn ≡ Some number
  pub others : (qn : ℕ) → qn ≢ pn → line_in after now qn ≡ line_in own aside qn
  pub elsewhere : (t epoch qn : ℕ) → ((t ≡ own.place) × (epoch ≡ own.epoch) → ⊥)
      → aside_at now t epoch qn ≡ aside_at aside t epoch qn

-- a line used the packet number, and nothing changes; or none did, and there is a claim more
abbrev pub LineIsKept : ℕ → ℕ → Lines → Aside → Lines → Aside → Option ℕ → Type 0
LineIsKept pn number own aside after now (Some line) =
    (line_in own aside pn ≡ Some line) × (after ≡ own) × (now ≡ aside)
LineIsKept pn number own aside after now None =
    (line_in own aside pn ≡ None) × IsMore pn number own aside after now

-- under one key there are these lines, and under others what there was
pub record OwnIsPut (key : ℕ × List ℕ) (own : Lines) (old new : LinesBySak) : Type 0 where
  pub here : own_at new key ≡ Some own
  pub others : (other : ℕ × List ℕ) → other ≢ key → own_at new other ≡ own_at old other

-- the first claim under a SAK
pub record IsOpened (key : ℕ × List ℕ) (place epoch pn number : ℕ) (old : LinesBySak) (aside : Aside)
    (new : LinesBySak) (now : Aside) : Type 0 where
  pub none : own_at old key ≡ None
  pub put : OwnIsPut key (fresh place epoch pn number) old new
  pub same : now ≡ aside

-- a claim more under a SAK that had one
pub record IsGrown (key : ℕ × List ℕ) (pn number : ℕ) (old : LinesBySak) (aside : Aside)
    (new : LinesBySak) (now : Aside) : Type 0 where
  pub own : Lines
  pub after : Lines
  pub there : own_at old key ≡ Some own
  pub none : line_in own aside pn ≡ None
  pub more : IsMore pn number own aside after now
  pub put : OwnIsPut key after old new

-- under one key a line used the packet number, and nothing changes; or none did
abbrev pub LineIsKeptAt : ℕ × List ℕ → ℕ → ℕ → ℕ → ℕ → LinesBySak → Aside → LinesBySak → Aside → Option ℕ
    → Type 0
LineIsKeptAt key place epoch pn number old aside new now (Some line) =
    (option_and_then (λ own. line_in own aside pn) (own_at old key) ≡ Some line)
    × (new ≡ old) × (now ≡ aside)
LineIsKeptAt key place epoch pn number old aside new now None =
    IsOpened key place epoch pn number old aside new now ⊎ IsGrown key pn number old aside new now

pub record UseIsPut (number s pn : ℕ) (sak : Secret) (old new : Maps) : Type 0 where
  pub count : new.count ≡ old.count
  pub missed : new.missed ≡ old.missed
  pub once : new.once ≡ old.once
  pub one_key : new.one_key ≡ old.one_key
  pub epochs : new.epochs ≡ old.epochs
  pub keys : new.keys ≡ old.keys
  pub here : line_by new s pn sak ≡ Some number
  pub others : (t qn : ℕ) (other : Secret) → ((t ≡ s) × (qn ≡ pn) × (other ≡ sak) → ⊥)
      → line_by new t qn other ≡ line_by old t qn other
  pub bound : IsBound new

abbrev pub UseIsKept : ℕ → ℕ → ℕ → Secret → Maps → Maps → Option ℕ → Type 0
UseIsKept number s pn sak old new (Some line) = (line_by old s pn sak ≡ Some line) × (new ≡ old)
UseIsKept number s pn sak old new None =
    (line_by old s pn sak ≡ None) × UseIsPut number s pn sak old new

abbrev pub IsUsed : ℕ → ℕ → ℕ → Secret → Maps → Maps → Option (ℕ × ℕ) → Option ℕ → Type 0
IsUsed number s pn sak old new (Some pair) line = new ≡ old
IsUsed number s pn sak old new None None = UseIsPut number s pn sak old new
IsUsed number s pn sak old new None (Some line) = new ≡ record old { once = Some (line, number) }

-- the SAKs with one more, and without the one of a station's epoch
abbrev pub with_sak : Saks → ℕ → ℕ → Secret → Saks
with_sak saks s epoch (S128 octets) =
    record saks { narrow = insert_entry pair_cmp saks.narrow (s, epoch) octets }
with_sak saks s epoch (S256 octets) =
    record saks { wide = insert_entry pair_cmp saks.wide (s, epoch) octets }

abbrev pub without_sak : Saks → ℕ → ℕ → Saks
without_sak saks s epoch = record {
  narrow = remove_entry (is_at (pair_cmp (s, epoch))) saks.narrow;
  wide = remove_entry (is_at (pair_cmp (s, epoch))) saks.wide;
}

-- a SAK is found under a place and an epoch, and what is found under others is as it was
pub record SakIsPut (s epoch : ℕ) (sak : Secret) (old new : Saks) : Type 0 where
  pub entries : new ≡ with_sak old s epoch sak
  pub here : sak_under new s epoch ≡ Some sak
  pub others : (t e : ℕ) → ((t ≡ s) × (e ≡ epoch) → ⊥) → sak_under new t e ≡ sak_under old t e

-- ---- installs and claims by place and epoch

-- a station installs a SAK under an epoch, under which this one or none was found before
abbrev pub Opens : ℕ → ℕ → Secret → Saks → Saks → Option Secret → Result Unit CheckError → Type 0
Opens s epoch sak old new (Some before) r = (r ≡ Err (Refused Doubled)) × (new ≡ old)
Opens s epoch sak old new None (Ok _) = SakIsPut s epoch sak old new
Opens s epoch sak old new None (Err error) = (error ≡ Memory) × (new ≡ old)

-- a station claims under an epoch, under which this SAK or none was found
abbrev pub Finds : Option Secret → Result Unit CheckError → Type 0
Finds None r = r ≡ Err (Refused Orphan)
Finds (Some sak) r = is_ok r ≡ true

abbrev pub Enters : Fact → Saks → Saks → Result Unit CheckError → Type 0
Enters (shows.Installed s id an epoch sak) old new r =
    Opens s epoch sak old new (sak_under old s epoch) r
Enters (shows.Claimed s an epoch pn) old new r = Finds (sak_under old s epoch) r × (new ≡ old)
Enters _ old new r = (is_ok r ≡ true) × (new ≡ old)

-- ---- a fact is taken

-- a fact is refused, or it is not and memory ran out
abbrev pub IsFailed : List Fact → Fact → CheckError → Type 0
IsFailed facts fact (Refused fault) = refusal facts fact ≡ Some fault
IsFailed facts fact Memory = refusal facts fact ≡ None

-- what a call says after these facts
abbrev pub IsNoted : List Fact → Fact → Maps → Maps → Result Unit CheckError → Type 0
IsNoted facts fact old new (Ok _) = (refusal facts fact ≡ None) × StandsFor (facts ++ fact ∷ []) new
IsNoted facts fact old new (Err error) = IsFailed facts fact error × (new ≡ old)

pub record IsInstalled (number s epoch : ℕ) (id : KeyId) (named : Named) (old new : Maps) : Type 0 where
  pub saks : Saks
  pub epoch_put : SakIsPut s epoch named.sak old.epochs saks
  pub names_it : IsNamed number id named (record old { epochs = saks }) new old.one_key
      (first_of (record old { epochs = saks }) id)

abbrev pub Installs : ℕ → ℕ → ℕ → KeyId → Named → Maps → Maps → Option Secret → Result Unit CheckError
    → Type 0
Installs number s epoch id named old new (Some sak) r = (r ≡ Err (Refused Doubled)) × (new ≡ old)
Installs number s epoch id named old new None (Ok _) = IsInstalled number s epoch id named old new
Installs number s epoch id named old new None (Err error) = (error ≡ Memory) × (new ≡ old)

abbrev pub Claims : ℕ → ℕ → ℕ → Maps → Maps → Option Secret → Result Unit CheckError → Type 0
Claims number s pn old new None r = (r ≡ Err (Refused Orphan)) × (new ≡ old)
Claims number s pn old new (Some sak) (Ok _) =
    IsBound old → IsUsed number s pn sak old new old.once (line_by old s pn sak)
Claims number s pn old new (Some sak) (Err error) = (error ≡ Memory) × (new ≡ old)

abbrev pub Passes : Maps → Maps → ℕ → Result Unit CheckError → Type 0
Passes old new missed r = (is_ok r ≡ true) × (new ≡ record old { missed = missed })

abbrev pub Takes : ℕ → Fact → Maps → Maps → Result Unit CheckError → Type 0
Takes number (shows.Installed s id an epoch sak) old new r =
    Installs number s epoch id (record { an = an; sak = sak }) old new (sak_at old s epoch) r
Takes number (shows.Claimed s an epoch pn) old new r =
    Claims number (station_of s) pn old new (sak_at old s epoch) r
Takes number (shows.Arrived k s arrival) old new r =
    Passes old new (min (old.missed + (if is_missed (shows.Arrived k s arrival) then 1 else 0)) 18446744073709551615) r
Takes number _ old new r = (is_ok r ≡ true) × (new ≡ old)
