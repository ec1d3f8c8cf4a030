-- Definitions at worked values.
use Rattle.std.proofs.Common.{◌≡◌, ℕ, arith, ◌*◌, ◌-◌, ◌^◌, [], ◌∷◌, ◌++◌, None, Some, Ok, Err, true, false, replicate, refl}
use Rattle.lan_base.specs.declared.address.Mi.{Mi}
use Rattle.lan_base.specs.Identifiers.{IsAscending, has}
use Rattle.lan_base.specs.Falling.{IsFalling}
use Rattle.lan_base.specs.Counted.{counted, count_from}
use Rattle.lan_base.specs.Faults.{one_more}
use Rattle.lan_base.specs.declared.source.Failed.{Failed}
use Rattle.lan_base.specs.Given.{given, GaveOf}
use Rattle.lan_base.specs.InMemory.{failures, GaveInMemory, GaveSteadily, SourceInMemory}
use Rattle.lan_base.specs.Name.{is_name}
use Rattle.lan_base.specs.Timers.{hello_time, life_time, retire_time}
use Rattle.lan_base.specs.Told.{before, after}

-- the first draw is 1, and the one after the greatest is 0
first_draw : count_from 0 0 ≡ Some (replicate 15 0 ++ 1 ∷ [])
unfolding counted
first_draw = refl

draw_300 : count_from 0 299 ≡ Some (replicate 14 0 ++ 1 ∷ 44 ∷ [])
unfolding counted
draw_300 = refl

greatest_draw : count_from (2 ^ 128 - 2) 0 ≡ Some (replicate 16 255)
unfolding counted
greatest_draw = refl

draw_after_the_greatest : count_from (2 ^ 128 - 1) 0 ≡ Some (replicate 16 0)
unfolding counted
draw_after_the_greatest = refl

-- "sw1", "1a", and letters with a digit behind them, 16 octets and 17
named : is_name (115 ∷ 119 ∷ 49 ∷ []) ≡ true
named = refl

unnamed : is_name (49 ∷ 97 ∷ []) ≡ false
unnamed = refl

named_16 : is_name (replicate 15 97 ++ 57 ∷ []) ≡ true
named_16 = refl

unnamed_17 : is_name (replicate 16 97 ++ 57 ∷ []) ≡ false
unnamed_17 = refl

-- of four calls the second and the third fail, however often they are listed
two_failures : failures (3 ∷ 2 ∷ 3 ∷ 9 ∷ []) 4 ≡ 2
two_failures = refl

last_call : one_more (2 ^ 64 - 1) ≡ 2 ^ 64 - 1
last_call = refl

told : before (1 ∷ []) (after (Some (2 ∷ [])) (3 ∷ [])) ≡ Some (1 ∷ 2 ∷ 3 ∷ [])
told = refl

untold : before (1 ∷ []) None ≡ None
untold = refl

-- a read of two octets into three, and a failed one
two_given : given (Ok 2) (7 ∷ 8 ∷ 0 ∷ []) ≡ Some (7 ∷ 8 ∷ [])
two_given = refl

none_given : given (Err (record {})) (7 ∷ 8 ∷ 0 ∷ []) ≡ None
none_given = refl

-- of three octets a read gave two, and of none none
two_gone : GaveSteadily (7 ∷ 8 ∷ 9 ∷ []) (Some (7 ∷ 8 ∷ [])) (9 ∷ [])
two_gone = (refl, λ e. absurd cc)

end_given : GaveSteadily [] (Some []) []
end_given = (refl, λ e. refl)

-- of a source whose second call fails the second read gave nothing
abbrev after_calls : ℕ → SourceInMemory
after_calls n = record { left = 9 ∷ []; piece = 4; fails = 2 ∷ []; calls = n }

fault_given : GaveInMemory (after_calls 1) None (after_calls 2)
fault_given = (refl, refl)

-- a source that tells nothing counts its faults all the same
fault_counted : GaveOf None 0 None None 1
fault_counted = (refl, refl)

-- three hello times are a life time, and half of that is the retire time
three_hellos : life_time ≡ 3 * hello_time
three_hellos = refl

half_a_life : 2 * retire_time ≡ life_time
half_a_life = refl

-- identifiers ascend octet by octet, and numbers fall
abbrev mi : ℕ → ℕ → Mi
mi m n = record { 0 = m ∷ n ∷ [] }

ascending : IsAscending (mi 1 9 ∷ mi 2 0 ∷ mi 2 1 ∷ [])
ascending = ((refl, (refl, tt)), ((refl, tt), (tt, tt)))

one_of_two : has (mi 2 0) (mi 1 9 ∷ mi 2 0 ∷ []) ≡ true
one_of_two = refl

falling : IsFalling (7 ∷ 4 ∷ 1 ∷ [])
falling = ((omega arith, (omega arith, tt)), ((omega arith, tt), (tt, tt)))
