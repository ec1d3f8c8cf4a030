-- What is on the way of small acts, worked by hand.
use Rattle.std.proofs.Common.{◌≡◌, ℕ, List, [], ◌∷◌, inl, inr, refl, sym, ap, ◌∙◌}
use Rattle.std.specs.Prelude.{Option, Some, None}
use Rattle.trace_acts.specs.Settings.{no_choice}
use Rattle.lan_schedule.specs.Races.{Raced}
use Rattle.lan_schedule.specs.World.{World, beginning, nothing_kept}
use Rattle.lan_schedule.specs.Acts.{Act, BeginsAt, Course, IsOnWay, nothing, perform, race, seq, world_of}
use Rattle.lan_schedule.specs.Lines.{at_line, begin_line}

-- a line that performs nothing more
abbrev line : Act
line = seq (begin_line 3) nothing

-- the line began
part_of_a_line : IsOnWay line (beginning []) (at_line 3 (beginning []))
part_of_a_line = inl (inr refl)

-- what has other settings is not on its way, though it shows the same
abbrev other : World
other = record {
  run = [];
  kept = record (nothing_kept []) { line = 3; chosen = record no_choice { lag = Some 2 } };
}

abbrev lag_of : World → Option ℕ
lag_of w = w.kept.chosen.lag

abbrev lag_in : Course → Option ℕ
lag_in out = lag_of (world_of out)

some : (lag : ℕ) → Some lag ≡ None → ⊥
some lag is = cc is

no_other_settings : IsOnWay line (beginning []) other → ⊥
no_other_settings (inl (inl is)) = some 2 (ap lag_of is)
no_other_settings (inl (inr is)) = some 2 (ap lag_of is)
no_other_settings (inr (u, goes, inl is)) = some 2 (ap lag_of is ∙ ap lag_in (sym goes))
no_other_settings (inr (u, goes, inr is)) = some 2 (ap lag_of is ∙ ap lag_in (sym goes))

-- nor is one that forgot a race
abbrev after_one : World
after_one = record {
  run = [];
  kept = record (nothing_kept []) { races = record { workers = []; claims = [] } ∷ [] };
}

abbrev races_of : World → List Raced
races_of w = w.kept.races

abbrev races_in : Course → List Raced
races_in out = races_of (world_of out)

none : (races : List Raced) → [] ≡ record { workers = []; claims = [] } ∷ races → ⊥
none races is = cc is

no_race_forgotten : IsOnWay line after_one (at_line 3 (beginning [])) → ⊥
no_race_forgotten (inl (inl is)) = none [] (ap races_of is)
no_race_forgotten (inl (inr is)) = none [] (ap races_of is)
no_race_forgotten (inr (u, goes, inl is)) = none [] (ap races_of is ∙ ap races_in (sym goes))
no_race_forgotten (inr (u, goes, inr is)) = none [] (ap races_of is ∙ ap races_in (sym goes))

-- a race that is over is on its way, but none of it was told where memory was wanting
abbrev of_nobody : Act
of_nobody = race [] nothing

abbrev over : World
over = world_of (perform of_nobody (beginning []))

whole_race : IsOnWay of_nobody (beginning []) over
whole_race = inr refl

no_race_told : BeginsAt of_nobody (beginning []) over → ⊥
no_race_told is = none [] (sym (ap races_of is))
