-- The worlds that an act passes.
use Rattle.std.specs.Prelude.{◌≡◌, ◌⊎◌}
use Rattle.trace_acts.specs.Acts.{Act, Goes, look, perform, Rules, seq, World, world_of}

-- On the way of an act from a world: where it begins, where it comes to, or on the way of a part of it.
-- An event and what goes on beside others have nothing between both.
abbrev pub IsOnWay : {R C E X B : Type 0} → Rules R C E X B → Act R C E X B → World R C → World R C
    → Type 0
IsOnWay {R = R} {C = C} rules (seq first then_) w = λ v. IsOnWay rules first w v
    ⊎ ((u : World R C) × (perform rules first w ≡ Goes u) × IsOnWay rules then_ u v)
IsOnWay rules (look act) w = IsOnWay rules (act w) w
IsOnWay rules act w = λ v. (v ≡ w) ⊎ (v ≡ world_of (perform rules act w))

-- A part of an act begins in a world, where the act does in another. An event and what goes on beside
-- others have no parts.
abbrev pub BeginsAt : {R C E X B : Type 0} → Rules R C E X B → Act R C E X B → World R C → World R C
    → Type 0
BeginsAt {R = R} {C = C} rules (seq first then_) w = λ v. BeginsAt rules first w v
    ⊎ ((u : World R C) × (perform rules first w ≡ Goes u) × BeginsAt rules then_ u v)
BeginsAt rules (look act) w = BeginsAt rules (act w) w
BeginsAt rules act w = λ v. v ≡ w
