-- Where there is room for a whole, there is room for its parts in turn.
use Rattle.std.proofs.Common.{ℕ, List, ◌++◌, length, ap, ◌∙◌, arith, length-append, append_assoc}
use Rattle.std.specs.Global.{Vec}
use Rattle.lan_base.specs.Room.{HasRoom, Puts}

pub room_in_front : (v : Vec ℕ) (a b : List ℕ) → HasRoom v (a ++ b) → HasRoom v a
room_in_front v a b r = record { enough = omega (arith, length-append a b, r.enough) }

pub room_behind : (u v : Vec ℕ) (a b : List ℕ) → Puts u v a → HasRoom u (a ++ b) → HasRoom v b
room_behind u v a b p r = record { enough = omega (arith, ap length p.items, length-append u.items a, length-append a b, p.capacity, r.enough) }

pub put_then : (u v w : Vec ℕ) (a b : List ℕ) → Puts u v a → Puts v w b → Puts u w (a ++ b)
put_then u v w a b p q = record { items = q.items ∙ ap (λ (x : List ℕ). x ++ b) p.items ∙ append_assoc u.items a b; capacity = omega (arith, p.capacity, q.capacity) }

-- of what is put piece by piece: that there is room for each piece, and that the pieces make the whole
pub ruleset pieces = (room_in_front, room_behind, put_then)
