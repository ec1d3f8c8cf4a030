-- Premises on a run: drawn values differ, and nobody forges a frame of the group.
use Rattle.std.specs.Prelude.{◌≡◌, ℕ, Bool, nat_eq, ◌&&◌, false, not, List, [], ◌∷◌, map, take}
use Rattle.std.specs.Prelude.{Option, None, is_some, option_map, Result, Ok}
use Rattle.std.specs.List.{list_any}
use lib.Pointwise.{pointwise}
use Rattle.lan_base.specs.declared.address.Mi.{Mi}
use Rattle.lan_base.specs.Differing.{AllDiffer}
use Rattle.aes_block.specs.Secrets.{secret_octets}
use Rattle.mkpdu_codec.specs.declared.spelled.Spelled.{Spelled}
use Rattle.mkpdu_codec.specs.declared.refusal.Refusal.{Refusal}
use Rattle.mkpdu_codec.specs.Reading.{reading}
use Rattle.mka_station.specs.Hearing.{right}
use Rattle.lan_core.specs.declared.event.Event.{Event}
use Rattle.lan_core.specs.declared.event.Event.TheVariants as events
use Rattle.lan_core.specs.declared.fact.Fact.{Fact}
use Rattle.lan_core.specs.declared.settings.Settings.{Settings}
use Rattle.lan_core.specs.Run.{Run, stations}
use Rattle.lan_core.specs.Ledgers.{air, Frame, births, with_one}
use Rattle.lan_core.specs.Lives.{drawn_sak, setup_of}

-- ---- fresh

-- the member identifiers that were drawn
abbrev pub drawn_mis : Run → List Mi
drawn_mis r = map (λ b. b.mi) (births r)

-- the SAK that a tick drew
abbrev pub sak_drawn : List Fact → Event → Option (List ℕ)
sak_drawn facts (events.Tick s next) = option_map secret_octets (drawn_sak facts)
sak_drawn facts _ = None

-- the SAKs that were drawn: those of keys that were made
unfoldable pub drawn_saks : Run → List (List ℕ)
drawn_saks [] = []
drawn_saks (x ∷ r) = with_one (sak_drawn x.facts x.event) (drawn_saks r)

-- no two member identifiers that were drawn are equal, and no two SAKs
pub record IsFresh (r : Run) : Type 0 where
  pub mis : AllDiffer (drawn_mis r)
  pub saks : AllDiffer (drawn_saks r)

-- ---- unforged

-- whether two frames spell something, with the same covered octets and the same check value
abbrev pub same_spelling :
    List ℕ → List ℕ → Result Spelled Refusal → Result Spelled Refusal → Bool
same_spelling a b (Ok s) (Ok t) =
    pointwise nat_eq (take s.covered a) (take t.covered b) && pointwise nat_eq s.check t.check
same_spelling a b _ _ = false

-- whether octets repeat a frame, but for what stands after its body
abbrev pub repeats : List ℕ → Frame → Bool
repeats octets frame =
    same_spelling octets frame.octets (reading octets) (reading frame.octets)

-- whether a frame has the group's name and a right check value, by what its stations are set up
-- with
abbrev pub is_right : Settings → Run → List ℕ → Bool
is_right settings r octets =
    list_any (λ p. is_some (right (setup_of settings p) octets)) (stations r)

-- forged: right, and no repetition of a frame on the air
abbrev pub is_forged : Settings → Run → List ℕ → Bool
is_forged settings r octets = is_right settings r octets && not (list_any (repeats octets) (air r))

abbrev pub IsUnforgedBy : Settings → Run → Event → Type 0
IsUnforgedBy settings r (events.Inject s octets) = is_forged settings r octets ≡ false
IsUnforgedBy settings r _ = Unit {0}

-- no foreign octets are forged, by the air before them
abbrev pub IsUnforged : Settings → Run → Type 0
IsUnforged settings [] = Unit {0}
IsUnforged settings (x ∷ r) = IsUnforgedBy settings r x.event × IsUnforged settings r
