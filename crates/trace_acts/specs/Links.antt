-- Which links are cut.
use Rattle.std.specs.Prelude.{ℕ, ◌==◌, ◌&&◌, Bool, if◌then◌else◌, not, List, [], ◌∷◌, ◌++◌}
use Rattle.std.specs.List.{list_any, filter}
use Rattle.trace_acts.specs.declared.links.Link.{Link}

abbrev pub is_link : ℕ → ℕ → Link → Bool
is_link from to link = (link.from == from) && (link.to == to)

-- whether a link is cut
abbrev pub is_cut : ℕ → ℕ → List Link → Bool
is_cut from to cuts = list_any (is_link from to) cuts

-- a link is cut; one that is cut already stays so
abbrev pub with_link : ℕ → ℕ → List Link → List Link
with_link from to cuts =
    if is_cut from to cuts then cuts else cuts ++ record { from = from; to = to } ∷ []

-- a link is whole again
abbrev pub without_link : ℕ → ℕ → List Link → List Link
without_link from to cuts = filter (λ link. not (is_link from to link)) cuts
