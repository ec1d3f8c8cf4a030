-- Names that no group has.
use Rattle.std.specs.Fmt.{digits}
use Rattle.std.specs.Prelude.{codes}
use Rattle.hex.specs.Hex.{encode_with}
use Rattle.std.proofs.Common.{◌≡◌, ℕ, List, [], ◌∷◌, ◌++◌, map, Option, Some, None, refl}
use Rattle.audit_report.specs.Unknown.{first_names, unknown_lines, unknown_of}

-- packets 1 to 6: of the names 02, 0101 and 01, one of none, then 0101 and 02 again
abbrev some : List (Option (List ℕ))
some = Some (2 ∷ []) ∷ Some (1 ∷ 1 ∷ []) ∷ None ∷ Some (1 ∷ []) ∷ Some (1 ∷ 1 ∷ []) ∷ Some (2 ∷ []) ∷ []

-- 01 comes before 0101, and that before 02
three : unknown_of some ≡ record { ckn = 1 ∷ []; packets = 1; first = 3 }
    ∷ record { ckn = 1 ∷ 1 ∷ []; packets = 2; first = 2 } ∷ record { ckn = 2 ∷ []; packets = 2; first = 1 } ∷ []
three = refl

three_lines : unknown_lines (unknown_of some)
    ≡ codes "unknown 01 packets 1 first 3" ++ 10 ∷ codes "unknown 0101 packets 2 first 2" ++ 10 ∷ codes "unknown 02 packets 2 first 1" ++ 10 ∷ []
unfolding digits encode_with
three_lines = refl

no_name : unknown_of (None ∷ []) ≡ []
no_name = refl

-- packets 1 to 17 of the names 1 to 17: the last is not told
seventeen : first_names (map (λ n. Some (n ∷ [])) (17 ∷ 16 ∷ 15 ∷ 14 ∷ 13 ∷ 12 ∷ 11 ∷ 10 ∷ 9 ∷ 8 ∷ 7 ∷ 6 ∷ 5 ∷ 4 ∷ 3 ∷ 2 ∷ 1 ∷ []))
    ≡ map (λ n. n ∷ []) (16 ∷ 15 ∷ 14 ∷ 13 ∷ 12 ∷ 11 ∷ 10 ∷ 9 ∷ 8 ∷ 7 ∷ 6 ∷ 5 ∷ 4 ∷ 3 ∷ 2 ∷ 1 ∷ [])
seventeen = refl
