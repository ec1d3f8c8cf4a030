-- The ledgers of a run, what each current life has done, and the changes of both.
use Rattle.std.specs.Prelude.{◌≡◌, ◌==◌, ◌<◌, ◌⊎◌, ℕ, Bool, true, false, cond, List, [], ◌∷◌, map}
use Rattle.std.specs.Prelude.{Option, Some, None}
use Rattle.lan_base.specs.declared.association_number.AssociationNumber.{AssociationNumber}
use Rattle.lan_base.specs.declared.address.Mi.{Mi}
use Rattle.lan_base.specs.declared.key_id.KeyId.{KeyId}
use Rattle.aes_block.specs.declared.secret.Secret.{Secret}
use Rattle.lan_core.specs.Ledgers.{Birth, Claim}
use Rattle.group_safety.proofs.Members.{In}

-- a key as it is handed out
pub record Handed : Type 0 where
  pub id : KeyId
  pub an : AssociationNumber
  pub sak : Secret

-- an announcement: whose it is, whom its Live Peer List has, and the key that it gives
pub record Said : Type 0 where
  pub mi : Mi
  pub live : List Mi
  pub given : Option Handed

-- a key that a life made, and for whom
pub record Made : Type 0 where
  pub key : Handed
  pub roster : List Mi

-- an install: where, by which life, of which key, under which epoch, whether the life made the key,
-- and who was born then
pub record Installation : Type 0 where
  pub station : ℕ
  pub life : Mi
  pub key : Handed
  pub epoch : ℕ
  pub made : Bool
  pub born : List Birth

-- what a life has done so far: whom it heard, which keys it made, and which it installed
pub record Deeds : Type 0 where
  pub mi : Mi
  pub heard : List Mi
  pub made : List Made
  pub keys : List KeyId

-- all ledgers, newest first, and the current lives
pub record Book : Type 0 where
  pub births : List Birth
  pub spoken : List Said
  pub installs : List Installation
  pub claims : List Claim
  pub life : ℕ → Option Deeds

-- the identifiers of the lives so far
abbrev pub mis : List Birth → List Mi
mis bs = map (λ b. b.mi) bs

-- the life of a station that began last
abbrev pub current : ℕ → List Birth → Option Mi
current s [] = None
current s (b ∷ bs) = cond (b.station == s) (Some b.mi) (current s bs)

-- the lives with one station's replaced
abbrev pub with_life : ℕ → Deeds → (ℕ → Option Deeds) → ℕ → Option Deeds
with_life s l before t = cond (s == t) (Some l) (before t)

-- a life that has done nothing yet
abbrev pub newborn : Mi → Deeds
newborn m = record { mi = m; heard = []; made = []; keys = [] }

-- a life begins; a key is made; an announcement is sent; one is heard; a key is taken; a packet
-- number is claimed
pub data Change : Type 0 where
  was_born : ℕ → Mi → Change
  was_made : ℕ → Deeds → Made → ℕ → Change
  was_said : ℕ → Deeds → Said → Change
  was_heard : ℕ → Deeds → Said → Change
  was_taken : ℕ → Deeds → Said → Handed → ℕ → Change
  was_claimed : Claim → Change

-- what a change makes of the book
abbrev pub after : Change → Book → Book
after (was_born s m) b = record b {
  births = record { station = s; mi = m } ∷ b.births;
  life = with_life s (newborn m) b.life;
}
after (was_made s l d e) b = record b {
  installs =
      record { station = s; life = l.mi; key = d.key; epoch = e; made = true; born = b.births }
      ∷ b.installs;
  life = with_life s (record l { made = d ∷ l.made; keys = d.key.id ∷ l.keys }) b.life;
}
after (was_said s l a) b = record b { spoken = a ∷ b.spoken }
after (was_heard s l a) b =
    record b { life = with_life s (record l { heard = a.mi ∷ l.heard }) b.life }
after (was_taken s l a k e) b = record b {
  installs =
      record { station = s; life = l.mi; key = k; epoch = e; made = false; born = b.births }
      ∷ b.installs;
  life = with_life s (record l { keys = k.id ∷ l.keys }) b.life;
}
after (was_claimed c) b = record b { claims = c ∷ b.claims }

-- a life may make this key for these
pub record MayMake (b : Book) (s : ℕ) (l : Deeds) (d : Made) : Type 0 where
  pub living : b.life s ≡ Some l
  pub own : d.key.id.server ≡ l.mi
  pub new : ¬ (In d.key.id l.keys)
  pub known : (m : Mi) → In m d.roster → (m ≡ l.mi) ⊎ In m l.heard

-- the key that an announcement gives is one that the life made, for all that the announcement lists
pub record IsOwn (l : Deeds) (a : Said) (k : Handed) (d : Made) : Type 0 where
  pub made : In d l.made
  pub key : k ≡ d.key
  pub listed : (m : Mi) → In m a.live → In m d.roster

pub record MaySay (b : Book) (s : ℕ) (l : Deeds) (a : Said) : Type 0 where
  pub living : b.life s ≡ Some l
  pub own : a.mi ≡ l.mi
  pub gives : (k : Handed) → a.given ≡ Some k → (d : Made) × IsOwn l a k d

pub record MayHear (b : Book) (s : ℕ) (l : Deeds) (a : Said) : Type 0 where
  pub living : b.life s ≡ Some l
  pub spoken : In a b.spoken

pub record MayTake (b : Book) (s : ℕ) (l : Deeds) (a : Said) (k : Handed) : Type 0 where
  pub living : b.life s ≡ Some l
  pub spoken : In a b.spoken
  pub given : a.given ≡ Some k
  pub listed : In l.mi a.live
  pub new : ¬ (In k.id l.keys)

pub record MayClaim (b : Book) (c : Claim) : Type 0 where
  pub installed : (i : Installation) × In i b.installs × (i.station ≡ c.station)
      × (i.epoch ≡ c.epoch)
  pub new : (d : Claim) → In d b.claims → d.station ≡ c.station → d.epoch ≡ c.epoch → d.pn < c.pn

-- whether a change may come
abbrev pub May : Change → Book → Type 0
May (was_born s m) b = Unit {0}
May (was_made s l d e) b = MayMake b s l d
May (was_said s l a) b = MaySay b s l a
May (was_heard s l a) b = MayHear b s l a
May (was_taken s l a k e) b = MayTake b s l a k
May (was_claimed c) b = MayClaim b c

-- the book after all changes, which stand newest first
abbrev pub book : List Change → Book
book [] = record { births = []; spoken = []; installs = []; claims = []; life = λ s. None }
book (x ∷ r) = after x (book r)

-- each change was allowed when it came
abbrev pub AreAllowed : List Change → Type 0
AreAllowed [] = Unit {0}
AreAllowed (x ∷ r) = May x (book r) × AreAllowed r
