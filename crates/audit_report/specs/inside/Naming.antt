-- How one MKPDU more of a name that no group has is kept.
use Rattle.std.specs.Prelude.{ℕ, ◌||◌, nat_le, Bool, if◌then◌else◌, List, length}
use Rattle.std.specs.List.{insert, list_any, position_or_len}
use Rattle.std.specs.Cmp.Lexicographic.{slice_cmp}
use Rattle.std.specs.Ordering.{nat_cmp, is_lt}
use Rattle.audit_report.specs.declared.unknown.UnknownName.{UnknownName}
use Rattle.audit_report.specs.Unknown.{first_counted, more, most_names, same_name}

abbrev pub comes_before : List ℕ → List ℕ → Bool
comes_before a b = is_lt (slice_cmp nat_cmp a b)

-- of no packet
abbrev pub nobody : List ℕ → UnknownName
nobody ckn = record { ckn = ckn; packets = 0; first = 0 }

-- it is put at its place, unless it is there or there is no room
abbrev pub with_name : List ℕ → List UnknownName → List UnknownName
with_name ckn us =
    if nat_le most_names (length us) || list_any (λ u. same_name u.ckn ckn) us then us
    else insert us (position_or_len (λ u. comes_before ckn u.ckn) us) (nobody ckn)

-- a packet of a name is counted, if this is it
abbrev pub counted : List ℕ → ℕ → UnknownName → UnknownName
counted ckn packet u = record {
  ckn = u.ckn;
  packets = if same_name u.ckn ckn then more u.packets else u.packets;
  first = if same_name u.ckn ckn then first_counted u.packets u.first packet else u.first;
}
