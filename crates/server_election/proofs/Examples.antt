-- The election at worked values.
use Rattle.std.proofs.Common.{◌≡◌, ℕ, [], ◌∷◌, None, Some, refl}
use Rattle.lan_base.specs.declared.address.Mi.{Mi}
use Rattle.server_election.specs.declared.candidate.Candidate.{Candidate}
use Rattle.server_election.specs.Election.{elected}

mi_of : ℕ → Mi
mi_of n = record { 0 = n ∷ [] }

-- an identifier, an SCI of two octets, and a priority
candidate : ℕ → ℕ → ℕ → ℕ → Candidate
unfolding mi_of
candidate n source port priority =
    record { mi = mi_of n; sci = record { 0 = source ∷ port ∷ [] }; priority = priority }

alone : elected (candidate 1 10 1 16) [] ≡ None
unfolding candidate
alone = refl

-- the priority decides, and then the SCI's source, and then its port
by_priority : elected (candidate 1 10 1 16) (candidate 2 20 1 8 ∷ []) ≡ Some (mi_of 2)
unfolding candidate mi_of
by_priority = refl

by_source : elected (candidate 1 10 9 16) (candidate 2 20 1 16 ∷ []) ≡ Some (mi_of 1)
unfolding candidate mi_of
by_source = refl

by_port : elected (candidate 1 10 2 16) (candidate 2 10 1 16 ∷ []) ≡ Some (mi_of 2)
unfolding candidate mi_of
by_port = refl

-- priority 255 never serves
last_priority : elected (candidate 1 10 1 255) (candidate 2 20 1 254 ∷ candidate 3 1 1 255 ∷ []) ≡ Some (mi_of 2)
unfolding candidate mi_of
last_priority = refl

nobody : elected (candidate 1 10 1 255) (candidate 2 20 1 255 ∷ []) ≡ None
unfolding candidate
nobody = refl

-- of equal pairs the own comes first, and then the peers' in their order
own_tie : elected (candidate 1 10 1 8) (candidate 2 10 1 8 ∷ []) ≡ Some (mi_of 1)
unfolding candidate mi_of
own_tie = refl

peers_tie : elected (candidate 1 10 1 9) (candidate 2 10 1 8 ∷ candidate 3 10 1 8 ∷ []) ≡ Some (mi_of 2)
unfolding candidate mi_of
peers_tie = refl
