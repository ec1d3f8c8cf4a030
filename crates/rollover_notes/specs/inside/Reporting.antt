-- How what a member reports and begins is kept.
use Rattle.std.specs.Prelude.{ℕ, ◌&&◌, if◌then◌else◌, Bool, Option, None, List}
use Rattle.std.specs.List.{list_any}
use Rattle.std.specs.Map.{lookup}
use Rattle.std.specs.BTreeMap.{is_at}
use Rattle.mkpdu_codec.specs.declared.key_use.KeyUse.{KeyUse}
use Rattle.member_notes.specs.declared.mkpdu.RightMkpdu.{RightMkpdu}
use Rattle.rollover_notes.specs.declared.givings.Givings.{Givings}
use Rattle.rollover_notes.specs.declared.reports.Reports.{Reports}
use Rattle.rollover_notes.specs.Reports.{id_in, is_key}
use Rattle.rollover_notes.specs.Standing.{group_id_cmp}
use Rattle.rollover_notes.specs.inside.Putting.{PutsShown}

-- a key is shown with rx, by what is kept
abbrev pub shows_in : Givings → ℕ → ℕ → KeyUse → Bool
shows_in givings group key u = u.rx && is_key key (lookup (is_at (group_id_cmp (id_in group u))) givings.ids.entries)

abbrev pub transmits_in : Givings → ℕ → ℕ → KeyUse → Bool
transmits_in givings group key u = u.tx && shows_in givings group key u

-- a member shows keys in these uses
pub record IsReported (givings : Givings) (mkpdu : RightMkpdu) (nanos : ℕ) (uses : List KeyUse) (old new : Reports) :
    Type 0 where
  pub packets : PutsShown (λ key. list_any (shows_in givings mkpdu.group key) uses) (mkpdu.group, mkpdu.mi)
      mkpdu.packet old.packets.entries new.packets.entries
  pub times : PutsShown (λ key. list_any (transmits_in givings mkpdu.group key) uses) (mkpdu.group, mkpdu.mi)
      nanos old.times.entries new.times.entries

-- the key of a use, where it is used to receive
abbrev pub received_in : Givings → ℕ → KeyUse → Option ℕ
received_in givings group u =
    if u.rx then lookup (is_at (group_id_cmp (id_in group u))) givings.ids.entries else None
