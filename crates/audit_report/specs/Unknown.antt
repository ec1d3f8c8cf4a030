-- The names (CKN) of MKPDUs that no group has. Of packets, newest first, each stands for its name, if it is
-- such an MKPDU.
use Rattle.std.specs.Prelude.{ℕ, ◌≡◌, ◌+◌, ◌-◌, ◌==◌, min, nat_eq, Bool, false, if◌then◌else◌, List, [], ◌∷◌, drop, length, map, flat_map, Option, Some, None, codes, decimal}
use Rattle.std.specs.List.{list_any}
use Rattle.std.specs.Cmp.Lexicographic.{slice_cmp}
use Rattle.std.specs.Ordering.{nat_cmp, is_lt}
use lib.Pointwise.{pointwise}
use Rattle.hex.specs.Hex.{encode_lower}
use Rattle.audit_report.specs.declared.unknown.UnknownName.{UnknownName}
use Rattle.audit_report.specs.Lines.{line_of}

abbrev pub same_name : List ℕ → List ℕ → Bool
same_name a b = pointwise nat_eq a b

-- a packet is an MKPDU of this name
abbrev pub is_of : List ℕ → Option (List ℕ) → Bool
is_of ckn None = false
is_of ckn (Some other) = same_name ckn other

-- ---- which names are told

-- the different names, the one that came last the first
abbrev pub names : List (Option (List ℕ)) → List (List ℕ)
names [] = []
names (None ∷ h) = names h
names (Some ckn ∷ h) = if list_any (λ it. same_name it ckn) (names h) then names h else ckn ∷ names h

abbrev pub most_names : ℕ
most_names = 16

-- those that came first
abbrev pub first_names : List (Option (List ℕ)) → List (List ℕ)
first_names h = drop (length (names h) - most_names) (names h)

-- by the first octet in which they differ, a front of another before it
abbrev pub put : List ℕ → List (List ℕ) → List (List ℕ)
put ckn [] = ckn ∷ []
put ckn (other ∷ more) = if is_lt (slice_cmp nat_cmp ckn other) then ckn ∷ other ∷ more else other ∷ put ckn more

abbrev pub ascending : List (List ℕ) → List (List ℕ)
ascending [] = []
ascending (ckn ∷ more) = put ckn (ascending more)

-- ---- what is told of a name

-- one more, as far as 32 bits count
abbrev pub more : ℕ → ℕ
more n = min (n + 1) 4294967295

-- the first packet stays, where there was one
abbrev pub first_counted : ℕ → ℕ → ℕ → ℕ
first_counted n first packet = if n == 0 then packet else first

-- how many packets there are, and so the number of the newest
abbrev pub number : List (Option (List ℕ)) → ℕ
number [] = 0
number (e ∷ h) = more (number h)

-- how many are of a name, and which is the first, 0 for none
abbrev pub packets_of : List ℕ → List (Option (List ℕ)) → ℕ
packets_of ckn [] = 0
packets_of ckn (e ∷ h) = if is_of ckn e then more (packets_of ckn h) else packets_of ckn h

abbrev pub first_of : List ℕ → List (Option (List ℕ)) → ℕ
first_of ckn [] = 0
first_of ckn (e ∷ h) =
    if is_of ckn e then first_counted (packets_of ckn h) (first_of ckn h) (number (e ∷ h)) else first_of ckn h

abbrev pub unknown_name : List (Option (List ℕ)) → List ℕ → UnknownName
unknown_name h ckn = record { ckn = ckn; packets = packets_of ckn h; first = first_of ckn h }

-- of each of the first names, ascending
abbrev pub unknown_of : List (Option (List ℕ)) → List UnknownName
unknown_of h = map (unknown_name h) (ascending (first_names h))

-- ---- what is kept

pub record KeptNames : Type 0 where
  pub packets : ℕ
  pub names : List UnknownName

pub record StandsFor (h : List (Option (List ℕ))) (kept : KeptNames) : Type 0 where
  pub packets : kept.packets ≡ number h
  pub names : kept.names ≡ unknown_of h

-- ---- lines

abbrev pub unknown_line : UnknownName → List ℕ
unknown_line u = line_of (codes "unknown") (encode_lower u.ckn ∷ codes "packets" ∷ decimal u.packets
    ∷ codes "first" ∷ decimal u.first ∷ [])

abbrev pub unknown_lines : List UnknownName → List ℕ
unknown_lines us = flat_map unknown_line us
