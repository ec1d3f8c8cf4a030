-- What holds of the ledgers and the current lives after all allowed changes.
use Rattle.std.proofs.Common.{◌≡◌, ◌<◌, ℕ, List, [], ◌∷◌, map, true, Some}
use Rattle.lan_core.specs.Ledgers.{Birth, Claim}
use Rattle.lan_base.specs.Differing.{AllDiffer}
use Rattle.group_safety.proofs.Members.{In}
use Rattle.group_safety.proofs.once.Places.{IsTail}
use Rattle.lan_base.specs.declared.address.Mi.{Mi}
use Rattle.lan_base.specs.declared.key_id.KeyId.{KeyId}
use Rattle.group_safety.proofs.once.Ledgers.{Handed, Said, Made, Installation, Deeds, Book, mis}
use Rattle.group_safety.proofs.once.Ledgers.{current}

-- this make made the key, when all of these had begun
pub record IsMadeFor (installs : List Installation) (k : Handed) (ms : List Mi)
    (m : Installation) : Type 0 where
  pub place : In m installs
  pub made : m.made ≡ true
  pub key : m.key ≡ k
  pub begun : (x : Mi) → In x ms → In x (mis m.born)

-- this make made the installed key, and when it did the installer's life was the current one of its
-- station
pub record IsMakerOf (installs : List Installation) (i m : Installation) : Type 0 where
  pub place : In m installs
  pub made : m.made ≡ true
  pub key : m.key ≡ i.key
  pub current : current i.station m.born ≡ Some i.life

-- what ties a current life to the ledgers
pub record IsTied (births : List Birth) (installs : List Installation) (s : ℕ) (l : Deeds) : Type 0
  where
    pub begun : current s births ≡ Some l.mi
    pub heard : (m : Mi) → In m l.heard → In m (mis births)
    pub made : (d : Made) → In d l.made → (m : Installation) × IsMadeFor installs d.key d.roster m
    pub keys : (i : Installation) → In i installs → i.life ≡ l.mi → In i.key.id l.keys

-- claims of one station and epoch have falling numbers, newest first
abbrev pub IsFalling : List Claim → Type 0
IsFalling [] = Unit {0}
IsFalling (c ∷ cs) =
    ((d : Claim) → In d cs → d.station ≡ c.station → d.epoch ≡ c.epoch → d.pn < c.pn) × IsFalling cs

-- a life and the name of a key
abbrev pub by_whom : Installation → Mi × KeyId
by_whom i = (i.life, i.key.id)

pub record AreSpoken (births : List Birth) (spoken : List Said)
    (installs : List Installation) : Type 0 where
  pub speakers : (a : Said) → In a spoken → In a.mi (mis births)
  pub gifts : (a : Said) (k : Handed) → In a spoken → a.given ≡ Some k → (m : Installation)
      × IsMadeFor installs k a.live m

pub record AreInstalled (births : List Birth) (installs : List Installation) : Type 0 where
  pub makers : (i : Installation) → In i installs → (m : Installation) × IsMakerOf installs i m
  pub own : (i : Installation) → In i installs → i.made ≡ true → i.key.id.server ≡ i.life
  pub tails : (i : Installation) → In i installs → IsTail i.born births
  pub once : AllDiffer (map by_whom installs)

pub record AreClaimed (installs : List Installation) (claims : List Claim) : Type 0 where
  pub claimed : (c : Claim) → In c claims → (i : Installation) × In i installs
      × (i.station ≡ c.station) × (i.epoch ≡ c.epoch)
  pub falling : IsFalling claims

pub record Inv (st : Book) : Type 0 where
  pub lives : (s : ℕ) (l : Deeds) → st.life s ≡ Some l → IsTied st.births st.installs s l
  pub of_spoken : AreSpoken st.births st.spoken st.installs
  pub open of_spoken use *
  pub of_installs : AreInstalled st.births st.installs
  pub open of_installs use *
  pub of_claims : AreClaimed st.installs st.claims
  pub open of_claims use *
