-- What a claim gives where no other seat is out.
use Rattle.std.specs.Prelude.{◌≡◌, ℕ, ◌+◌, true, ◌∷◌}
use Rattle.association_slots.specs.Cards.{card_at}
use Rattle.association_slots.specs.Views.{current, free_number, told_sum}
use Rattle.association_slots.specs.declared.view.ControlView.{ControlView}
use Rattle.packet_claims.specs.declared.answers.Claim.{Claim}

-- the next packet number of the current epoch, by what control was told
abbrev pub next_now : ControlView → ℕ
next_now c = told_sum c (current c).an (current c).epoch

-- the claim is of the next number of the current epoch, with its card, and control, which knew c,
-- was told of it alone
abbrev pub IsNextClaim : ControlView → ControlView → Claim → Type 0
IsNextClaim c d k = (k.an ≡ (current c).an) × (k.epoch ≡ (current c).epoch) × (k.pn ≡ next_now c)
    × (k.card ≡ card_at c k.epoch)
    × (d.told ≡ record {
      seat = free_number c;
      an = k.an;
      met = k.epoch;
      loaded = k.epoch;
      claimed = true;
      pn = k.pn;
    } ∷ c.told) × (next_now d ≡ next_now c + 1)
