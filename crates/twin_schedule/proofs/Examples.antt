-- Lines at small worlds, worked by hand: which of them are refused, and what they leave.
use Rattle.std.proofs.Common.{◌≡◌, ℕ, true, false, List, [], ◌∷◌, ◌++◌, None, Some, refl}
use Rattle.std.specs.Prelude.{replicate}
use Rattle.lan_base.specs.declared.address.Mac.{Mac}
use Rattle.lan_base.specs.declared.address.Mi.{Mi}
use Rattle.lan_base.specs.declared.address.Sci.{Sci}
use Rattle.aes_block.specs.declared.secret.Secret.TheVariants.{S128}
use Rattle.lan_core.specs.declared.event.Event.TheVariants as events
use Rattle.lan_core.specs.declared.fact.Fact.TheVariants as facts
use Rattle.lan_core.specs.Run.{happened, stations}
use Rattle.cak_roll.specs.declared.event.GroupNumber.TheVariants.{First, Second}
use Rattle.cak_roll.specs.declared.event.TwinEvent.TheVariants as twins
use Rattle.cak_roll.specs.Twin.{adopters, run_of, Twin}
use Rattle.trace_text.specs.declared.line.Line.TheVariants as lines
use Rattle.trace_text.specs.declared.twin.line.RollLine.TheVariants.{Plain, Group2, Adopt, Leave}
use Rattle.trace_acts.specs.declared.halt.Kind.TheVariants as kinds
use Rattle.trace_acts.specs.Settings.{no_choice}
use Rattle.twin_schedule.specs.World.{beginning, joined, nothing_kept, waiting, World}
use Rattle.twin_schedule.specs.Acts.{Goes, perform}
use Rattle.twin_schedule.specs.Kinds.{refusal}
use Rattle.twin_schedule.specs.Lines.{act_of, is_over, line_after}

abbrev mi : ℕ → Mi
mi n = record { 0 = replicate 11 0 ++ n ∷ [] }

abbrev sci : ℕ → Sci
sci n = record { 0 = 2 ∷ 0 ∷ 0 ∷ 0 ∷ 0 ∷ n ∷ 0 ∷ 1 ∷ [] }

abbrev all : Mac
all = record { 0 = replicate 6 255 }

abbrev a : List ℕ
a = 65 ∷ []

abbrev b : List ℕ
b = 66 ∷ []

-- A and B started, in that order
abbrev two : Twin
two = record {
  event = twins.Start b (sci 11) 32;
  first = happened (events.Start b (sci 11) 32) (facts.Life 1 (mi 2) ∷ []) ∷ [];
  second = [];
} ∷ record {
  event = twins.Start a (sci 10) 16;
  first = happened (events.Start a (sci 10) 16) (facts.Life 0 (mi 1) ∷ []) ∷ [];
  second = [];
} ∷ []

-- B adopted the second group
abbrev adopted : Twin
adopted = record {
  event = twins.Adopt 1;
  first = [];
  second = happened (events.Start b (sci 11) 32) (facts.Life 0 (mi 3) ∷ []) ∷ [];
} ∷ two

-- A left the first group
abbrev left : Twin
left = record { event = twins.Leave 0 First; first = []; second = [] } ∷ adopted

-- behind line 9, with one group and with two
abbrev one_group : Twin → World
one_group run = record {
  run = run;
  kept = record nothing_kept {
    line = 9;
    begun = true;
    taken = 3;
    chosen =
        record no_choice { group = Some (record { cak = S128 (replicate 16 0); ckn = 1 ∷ 2 ∷ [] }) };
  };
}

abbrev two_groups : Twin → World
two_groups run =
    let w = one_group run in
    record w {
      kept = record w.kept {
        second = Some (record { cak = S128 (replicate 16 1); ckn = 1 ∷ 3 ∷ [] });
      };
    }

-- ---- a second group

-- none comes before the first, nor twice, nor with its name
unnamed : refusal (Group2 (replicate 16 1) (1 ∷ 3 ∷ [])) (waiting 1 no_choice None) ≡ Some kinds.Order
unnamed = refl

second : refusal (Group2 (replicate 16 1) (1 ∷ 3 ∷ [])) (one_group two) ≡ None
second = refl

same_name : refusal (Group2 (replicate 16 1) (1 ∷ 2 ∷ [])) (one_group two) ≡ Some kinds.Order
same_name = refl

twice : refusal (Group2 (replicate 16 1) (1 ∷ 4 ∷ [])) (two_groups two) ≡ Some kinds.Order
twice = refl

-- ---- adoptions

too_early : refusal (Adopt a) (one_group two) ≡ Some kinds.Order
too_early = refl

adopts : refusal (Adopt a) (two_groups two) ≡ None
unfolding run_of stations adopters
adopts = refl

unknown : refusal (Adopt (67 ∷ [])) (two_groups two) ≡ Some kinds.NameUnknown
unfolding run_of stations
unknown = refl

again : refusal (Adopt b) (two_groups adopted) ≡ Some kinds.Order
unfolding run_of stations adopters
again = refl

-- the second group's stations stand in the order of their adoptions
in_order : joined Second adopted ≡ 1 ∷ []
unfolding adopters
in_order = refl

-- ---- leaving

leaves : refusal (Leave 1 a) (two_groups two) ≡ None
unfolding run_of stations
leaves = refl

not_there : refusal (Leave 2 a) (two_groups adopted) ≡ Some kinds.Order
unfolding run_of stations adopters
not_there = refl

no_group : refusal (Leave 3 (67 ∷ [])) (two_groups two) ≡ Some kinds.Order
no_group = refl

-- lines have numbers from 1, and there is none behind the 2^32 - 1st
first_line : line_after 0 ≡ 1
first_line = refl

no_line_behind : line_after 4294967295 ≡ 4294967295
no_line_behind = refl

-- the first user frame has a number
has_numbers : is_over beginning ≡ false
has_numbers = refl

-- who left both groups, or never was in one, sends nothing, and restarts nothing
sends_nothing : refusal (Plain (lines.Send a all (replicate 46 0))) (two_groups left)
    ≡ Some kinds.Order
unfolding run_of stations adopters
sends_nothing = refl

restarts_nothing : perform (act_of (Plain (lines.Restart a))) (two_groups left)
    ≡ Goes (two_groups left)
unfolding run_of stations adopters
restarts_nothing = refl
