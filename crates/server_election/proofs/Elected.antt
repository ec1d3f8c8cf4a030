-- What the elected server is, by cases on the peers.
use Rattle.std.proofs.Common.{◌≡◌, ◌⊎◌, List, [], ◌∷◌, Option, None, Some, refl, ap, inl, inr}
use Rattle.std.specs.Option.{option_map}
use Rattle.std.specs.List.{All}
use Rattle.lan_base.specs.declared.address.Mi.{Mi}
use Rattle.server_election.specs.declared.candidate.Candidate.{Candidate}
use Rattle.server_election.specs.Election.{elected, eligible, least, IsLeast}
use Rattle.server_election.proofs.Least.{least-nobody, IsLeast-least}
use Rattle.server_election.proofs.Eligible.{All-from_nobody, nobody-from_All}

identified : (o : Option Candidate) (mi : Mi) → option_map (λ (x : Candidate). x.mi) o ≡ Some mi → (x : Candidate) × (o ≡ Some x) × (x.mi ≡ mi)
identified None mi is = cc
identified (Some x) mi is = (x, refl, cc)

nobody : (o : Option Candidate) → option_map (λ (x : Candidate). x.mi) o ≡ None → o ≡ None
nobody None is = refl
nobody (Some x) is = cc

pub IsLeast-elected : (own : Candidate) (live : List Candidate) (mi : Mi) → elected own live ≡ Some mi → (x : Candidate) × IsLeast x (eligible own live) × (x.mi ≡ mi)
IsLeast-elected own [] mi is = cc
IsLeast-elected own (y ∷ ys) mi is =
    let found = identified (least (eligible own (y ∷ ys))) mi is in
    (found.0, IsLeast-least (eligible own (y ∷ ys)) found.0 found.1, found.2)

-- no peer is live, or each candidate has the last priority
abbrev pub IsNobody : Candidate → List Candidate → Type 0
IsNobody own live = (live ≡ []) ⊎ All (λ x. x.priority ≡ 255) (own ∷ live)

pub IsNobody-elected : (own : Candidate) (live : List Candidate) → elected own live ≡ None → IsNobody own live
IsNobody-elected own [] none = inl refl
IsNobody-elected own (y ∷ ys) none =
    let nobody_left = nobody (least (eligible own (y ∷ ys))) none in
    inr (All-from_nobody (own ∷ y ∷ ys) (least-nobody (eligible own (y ∷ ys)) nobody_left))

pub elected-IsNobody : (own : Candidate) (live : List Candidate) → IsNobody own live → elected own live ≡ None
elected-IsNobody own [] is = refl
elected-IsNobody own (y ∷ ys) (inl none) = cc
elected-IsNobody own (y ∷ ys) (inr all) =
    let nobody_left : eligible own (y ∷ ys) ≡ [] = nobody-from_All (own ∷ y ∷ ys) all in
    ap (λ xs. option_map (λ (x : Candidate). x.mi) (least xs)) nobody_left
