-- Who serves: the candidate with the least pair of priority and SCI (IEEE Std 802.1X, 9.5).
use Rattle.std.specs.Prelude.{◌≡◌, ℕ, ◌==◌, Bool, false, not, List, [], ◌∷◌, Option, None, Some, All, Contains, filter, if◌then◌else◌}
use Rattle.std.specs.Option.{option_map}
use Rattle.std.specs.declared.cmp.Ordering.{Ordering}
use Rattle.std.specs.Ordering.{nat_cmp, ordering_then, is_lt}
use Rattle.std.specs.Cmp.Lexicographic.{slice_cmp}
use Rattle.lan_base.specs.declared.address.Mi.{Mi}
use Rattle.server_election.specs.declared.candidate.Candidate.{Candidate}

-- by priority, and then by SCI, octet by octet
abbrev pub pair_cmp : Candidate → Candidate → Ordering
pair_cmp x y = ordering_then (nat_cmp x.priority y.priority) (slice_cmp nat_cmp x.sci.0 y.sci.0)

-- x has a smaller pair than y
abbrev pub precedes : Candidate → Candidate → Bool
precedes x y = is_lt (pair_cmp x y)

-- the priority that never serves
abbrev pub never_serves : ℕ
never_serves = 255

-- a candidate of another priority may serve
abbrev pub may_serve : Candidate → Bool
may_serve x = not (x.priority == never_serves)

-- the station itself and its live peers, without those that never serve
abbrev pub eligible : Candidate → List Candidate → List Candidate
eligible own live = filter may_serve (own ∷ live)

-- the first, unless another has a smaller pair
abbrev pub first_of : Candidate → Option Candidate → Candidate
first_of x None = x
first_of x (Some y) = if precedes y x then y else x

-- the first of those with the least pair
abbrev pub least : List Candidate → Option Candidate
least [] = None
least (x ∷ xs) = Some (first_of x (least xs))

-- the elected server's identifier; nobody serves a station that is alone
abbrev pub elected : Candidate → List Candidate → Option Mi
elected own [] = None
elected own (peer ∷ peers) = option_map (λ x. x.mi) (least (eligible own (peer ∷ peers)))

-- x is one of them, and none of them has a smaller pair
pub record IsLeast (x : Candidate) (candidates : List Candidate) : Type 0 where
  pub one_of_them : Contains candidates x
  pub least : All (λ y. precedes y x ≡ false) candidates
