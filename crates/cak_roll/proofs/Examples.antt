-- A twin run: alice and bob start, alice adopts the second group, and leaves it.
use Rattle.std.proofs.Common.{◌≡◌, refl, [], ◌∷◌, arith, false}
use Rattle.lan_core.specs.declared.event.Event.TheVariants as events
use Rattle.lan_core.specs.declared.fact.Fact.TheVariants as facts
use Rattle.lan_core.specs.Run.{Happening, happened, stations}
use Rattle.lan_core.specs.Legal.{IsStep}
use Rattle.group_safety.proofs.Public.{settings, mi, alice, bob, users, bob_starts}
use Rattle.cak_roll.specs.declared.event.GroupNumber.{GroupNumber}
use Rattle.cak_roll.specs.declared.event.GroupNumber.TheVariants.{First, Second}
use Rattle.cak_roll.specs.declared.event.TwinEvent.TheVariants as twins
use Rattle.cak_roll.specs.Twin.{Pair, Twin, TwinHappening, run_of, adopters, takes_part, IsPart}
use Rattle.cak_roll.specs.Twin.{IsTwinStep, IsTwinRun}

pub pair : Pair
pair = record { first = settings; second = settings }

abbrev alice_starts : Happening
alice_starts =
    happened (events.Start alice.name alice.sci alice.priority) (facts.Life 0 (mi 1) ∷ [])

abbrev bob_comes : Happening
bob_comes = happened (events.Start bob.name bob.sci bob.priority) (facts.Life 1 (mi 2) ∷ [])

abbrev pub one : TwinHappening
one = record {
  event = twins.Start alice.name alice.sci alice.priority;
  first = alice_starts ∷ [];
  second = [];
}

abbrev pub two : TwinHappening
two = record {
  event = twins.Start bob.name bob.sci bob.priority;
  first = bob_comes ∷ [];
  second = [];
}

abbrev pub three : TwinHappening
three = record { event = twins.Adopt 0; first = []; second = alice_starts ∷ [] }

abbrev pub four : TwinHappening
four = record { event = twins.Leave 0 Second; first = []; second = [] }

abbrev pub twin : Twin
twin = four ∷ three ∷ two ∷ one ∷ []

first_step : IsStep settings users alice_starts []
first_step = bob_starts.stepped.1.0

second_step : IsStep settings users bob_comes (alice_starts ∷ [])
second_step = bob_starts.stepped.0

both-parts : (x : TwinHappening) (t : Twin) → IsPart pair users x t First
    → IsPart pair users x t Second → (g : GroupNumber) → IsPart pair users x t g
both-parts x t a b First = a
both-parts x t a b Second = b

is_one : IsTwinStep pair users one []
unfolding run_of stations adopters pair
is_one = record {
  may_come = first_step.in_order.1.0;
  parts = both-parts one [] (record { events = refl; steps = (first_step, tt) })
      (record { events = refl; steps = tt });
}

is_two : IsTwinStep pair users two (one ∷ [])
unfolding run_of stations adopters pair
is_two = record {
  may_come = second_step.in_order.1.0;
  parts = both-parts two (one ∷ []) (record { events = refl; steps = (second_step, tt) })
      (record { events = refl; steps = tt });
}

is_three : IsTwinStep pair users three (two ∷ one ∷ [])
unfolding run_of stations adopters pair
is_three = record {
  may_come = (omega arith, refl);
  parts = both-parts three (two ∷ one ∷ []) (record { events = refl; steps = tt })
      (record { events = refl; steps = (first_step, tt) });
}

is_four : IsTwinStep pair users four (three ∷ two ∷ one ∷ [])
unfolding run_of stations adopters pair
is_four = record {
  may_come = refl;
  parts = both-parts four (three ∷ two ∷ one ∷ []) (record { events = refl; steps = tt })
      (record { events = refl; steps = tt });
}

pub is_twin : IsTwinRun pair users twin
is_twin = (is_four, (is_three, (is_two, (is_one, tt))))

-- alice takes part in the first group still, and not in the second; bob never did
alice_goes_on : takes_part Second 0 twin ≡ false
unfolding run_of stations adopters
alice_goes_on = refl

bob_stays : takes_part Second 1 twin ≡ false
unfolding run_of stations adopters
bob_stays = refl
