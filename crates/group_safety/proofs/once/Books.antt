-- The changes of a tick and of a hearing, and the book after them.
use Rattle.std.proofs.Common.{◌≡◌, ◌≢◌, refl, ◌∙◌, inl, inr, ℕ, List, [], ◌∷◌, ◌++◌, map}
use Rattle.std.proofs.Common.{Option, Some, None}
use Rattle.std.proofs.lemmas.Bool.Decides.{eqb_tells}
use Rattle.lan_base.specs.declared.address.Mi.{Mi}
use Rattle.sak_exchange.specs.declared.held_key.Key.{Key}
use Rattle.lan_core.specs.Ledgers.{Install}
use Rattle.group_safety.proofs.Members.{In}
use Rattle.group_safety.proofs.once.Ledgers.{Said, Installation, Deeds, Book, with_life, Change}
use Rattle.group_safety.proofs.once.Ledgers.{was_made, was_said, was_heard, was_taken, MayMake}
use Rattle.group_safety.proofs.once.Ledgers.{MaySay, book, AreAllowed}
use Rattle.group_safety.proofs.once.OneKeyEach.{made_in}
use Rattle.group_safety.proofs.once.Histories.{handed, having_made, having_taken, having_heard}
use Rattle.group_safety.proofs.once.Gists.{installed_at}

-- an install as the run shows it
abbrev pub plain : Installation → Install
plain i =
    record { station = i.station; id = i.key.id; an = i.key.an; epoch = i.epoch; sak = i.key.sak }

abbrev pub plains : Book → List Install
plains b = map plain b.installs

abbrev pub plain_makes : Book → List Install
plain_makes b = map plain (made_in b.installs)

pub with-this : (s : ℕ) (l : Deeds) (old : ℕ → Option Deeds) → with_life s l old s ≡ Some l
with-this s l old = elim (eqb_tells s s) [
  | inl y ↦ rw y.0 refl
  | inr y ↦ absurd (y.1 refl)
]

pub with-other : (s t : ℕ) (l : Deeds) (old : ℕ → Option Deeds) → s ≢ t
    → with_life s l old t ≡ old t
with-other s t l old differ = elim (eqb_tells s t) [
  | inl y ↦ absurd (differ y.1)
  | inr y ↦ rw y.0 refl
]

-- ---- how one book comes of another by what one station does: its life, and what is added to the
-- installs, to the makes, and to what is spoken

pub record Follows (b c : Book) (s : ℕ) (l : Deeds) (is ms : List Install) (ss : List Said) : Type 0
  where
    pub births : c.births ≡ b.births
    pub spoken : c.spoken ≡ ss ++ b.spoken
    pub installs : plains c ≡ is ++ plains b
    pub makes : plain_makes c ≡ ms ++ plain_makes b
    pub claims : c.claims ≡ b.claims
    pub here : c.life s ≡ Some l
    pub there : (t : ℕ) → s ≢ t → c.life t ≡ b.life t

-- a book follows itself: nothing is added
pub follows-itself : (b : Book) (s : ℕ) (l : Deeds) → b.life s ≡ Some l → Follows b b s l [] [] []
follows-itself b s l living = record {
  births = refl;
  spoken = refl;
  installs = refl;
  makes = refl;
  claims = refl;
  here = living;
  there = λ t other. refl;
}

-- ---- a key is made, or none

abbrev pub changes_made : ℕ → Deeds → List Mi → Option Key → List Change → List Change
changes_made s d ms None cs = cs
changes_made s d ms (Some k) cs = was_made s d (record { key = handed k; roster = ms }) k.epoch ∷ cs

pub made-follows : (s : ℕ) (d : Deeds) (ms : List Mi) (k : Option Key) (cs : List Change)
    → (book cs).life s ≡ Some d
    → Follows (book cs) (book (changes_made s d ms k cs)) s (having_made ms k d) (installed_at s k)
    (installed_at s k) []
made-follows s d ms None cs living = follows-itself (book cs) s d living
made-follows s d ms (Some k) cs living = record {
  births = refl;
  spoken = refl;
  installs = refl;
  makes = refl;
  claims = refl;
  here = with-this s (having_made ms (Some k) d) (book cs).life;
  there = λ t other. with-other s t (having_made ms (Some k) d) (book cs).life other;
}

pub made-allowed : (s : ℕ) (d : Deeds) (ms : List Mi) (k : Option Key) (cs : List Change)
    → AreAllowed cs
    → ((n : Key) → k ≡ Some n → MayMake (book cs) s d (record { key = handed n; roster = ms }))
    → AreAllowed (changes_made s d ms k cs)
made-allowed s d ms None cs allowed may = allowed
made-allowed s d ms (Some k) cs allowed may = (may k refl, allowed)

-- ---- an announcement is sent, or none

abbrev pub changes_said : ℕ → Deeds → Option Said → List Change → List Change
changes_said s d None cs = cs
changes_said s d (Some a) cs = was_said s d a ∷ cs

abbrev pub one_said : Option Said → List Said
one_said None = []
one_said (Some a) = a ∷ []

pub said-follows : (s : ℕ) (d : Deeds) (a : Option Said) (cs : List Change)
    → (book cs).life s ≡ Some d
    → Follows (book cs) (book (changes_said s d a cs)) s d [] [] (one_said a)
said-follows s d None cs living = follows-itself (book cs) s d living
said-follows s d (Some a) cs living = record {
  births = refl;
  spoken = refl;
  installs = refl;
  makes = refl;
  claims = refl;
  here = living;
  there = λ t other. refl;
}

pub said-allowed : (s : ℕ) (d : Deeds) (a : Option Said) (cs : List Change) → AreAllowed cs
    → ((x : Said) → a ≡ Some x → MaySay (book cs) s d x) → AreAllowed (changes_said s d a cs)
said-allowed s d None cs allowed may = allowed
said-allowed s d (Some a) cs allowed may = (may a refl, allowed)

-- ---- an announcement is heard, and a key is taken, or none

abbrev pub changes_heard : ℕ → Deeds → Said → Option Key → List Change → List Change
changes_heard s d a None cs = was_heard s d a ∷ cs
changes_heard s d a (Some k) cs =
    was_taken s (having_heard a.mi d) a (handed k) k.epoch ∷ was_heard s d a ∷ cs

pub heard-follows : (s : ℕ) (d : Deeds) (a : Said) (k : Option Key) (cs : List Change)
    → (book cs).life s ≡ Some d
    → Follows (book cs) (book (changes_heard s d a k cs)) s (having_taken k (having_heard a.mi d))
    (installed_at s k) [] []
heard-follows s d a None cs living = record {
  births = refl;
  spoken = refl;
  installs = refl;
  makes = refl;
  claims = refl;
  here = with-this s (having_heard a.mi d) (book cs).life;
  there = λ t other. with-other s t (having_heard a.mi d) (book cs).life other;
}
heard-follows s d a (Some k) cs living = record {
  births = refl;
  spoken = refl;
  installs = refl;
  makes = refl;
  claims = refl;
  here = with-this s (having_taken (Some k) (having_heard a.mi d))
      (with_life s (having_heard a.mi d) (book cs).life);
  there = λ t other.
      with-other s t (having_taken (Some k) (having_heard a.mi d))
      (with_life s (having_heard a.mi d) (book cs).life) other
      ∙ with-other s t (having_heard a.mi d) (book cs).life other;
}

pub heard-allowed : (s : ℕ) (d : Deeds) (a : Said) (k : Option Key) (cs : List Change)
    → AreAllowed cs
    → (book cs).life s ≡ Some d → In a (book cs).spoken
    → ((n : Key) → k ≡ Some n → (a.given ≡ Some (handed n)) × In d.mi a.live × (¬ (In n.id d.keys)))
    → AreAllowed (changes_heard s d a k cs)
heard-allowed s d a None cs allowed living said may =
    (record { living = living; spoken = said }, allowed)
heard-allowed s d a (Some k) cs allowed living said may =
    let t = may k refl in (
      record {
        living = with-this s (having_heard a.mi d) (book cs).life;
        spoken = said;
        given = t.0;
        listed = t.1;
        new = t.2;
      },
      (record { living = living; spoken = said }, allowed),
    )
