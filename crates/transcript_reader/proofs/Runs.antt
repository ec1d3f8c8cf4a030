-- What the readers of both groups answer to a text.
use Rattle.std.proofs.Common.{◌≡◌, ◌∙◌, ◌<◌, ◌≤◌, ◌⊎◌, ℕ, true, false, List, length, Result, Ok, Err, inl, inr, refl, sym, ap, subst, arith}
use Rattle.std.specs.Prelude.{◌↔◌, IfOk, OnErr}
use Rattle.lan_base.specs.declared.name.Name.{Name}
use Rattle.lan_core.specs.declared.fact.Fact.{Fact}
use Rattle.lan_core.specs.declared.fact.Fact.TheVariants as shows
use Rattle.lan_core.specs.Run.{place}
use Rattle.transcript.specs.declared.fault.FactError.{FactError}
use Rattle.transcript.specs.declared.fault.FactError.TheVariants.{Unread, Memory}
use Rattle.transcript.specs.Naming.{Reads, IsNaming, most_named}
use Rattle.transcript.specs.Rendering.{IsOfFrame, Says, line}
use Rattle.transcript_reader.specs.declared.group.Group.TheVariants.{First, Second}
use Rattle.transcript_reader.specs.Facts.{IsLife, Names}
use Rattle.transcript_reader.specs.inside.Seeing.{IsRead, both, is_unread}
use Rattle.transcript_reader.proofs.Places.{place-named, frame-line, life-line}

-- what a reader of one group answers to a text
pub record IsRun (names after : List Name) (text : List ℕ) (r : Result Fact FactError) : Type 0 where
  pub read : IfOk r (λ fact. Reads names text after fact)
  pub found : (then : List Name) (fact : Fact) → Reads names text then fact
      → IfOk r (λ answer. (answer ≡ fact) × (after ≡ then))
  pub unread : (r ≡ Err Unread) ↔ ((then : List Name) (fact : Fact) → Reads names text then fact → ⊥)
  pub memory : r ≡ Err Memory → (then : List Name) × (fact : Fact) × Reads names text then fact
  pub frames : r ≡ Err Memory → (then : List Name) (fact : Fact) → Reads names text then fact → IsOfFrame fact
  pub kept : OnErr r (after ≡ names)

abbrev pub with_first : Names → List Name → Names
with_first old names = record old { first = names }

abbrev pub with_second : Names → List Name → Names
with_second old names = record old { second = names }

of-naming : (names after : List Name) (fact : Fact) → IsNaming names after fact → IsLife fact
of-naming names after fact naming = subst IsLife (sym naming.life) tt

pub first-read : (old : Names) (after : List Name) (text : List ℕ) (r : Result Fact FactError)
    → length after ≤ most_named → IsRun old.first after text r → IsRead First old text (with_first old after) r
first-read old after text (Ok own) few run = record {
  read = (run.read, refl);
  found = λ then other l.
      let f = run.found then.first other l.0 in
      (f.0, (λ i. record { first = f.1 i; second = sym l.1 i }));
  unread = (λ e. absurd (cc e), λ n. absurd (n (with_first old after) own (run.read, refl)));
  memory = λ e. absurd (cc e);
  frames = λ e. absurd (cc e);
  kept = tt;
  still = still run.read.1;
  within = let less = place-named after own run.read.0.0 in omega (arith, less, few);
}
  where
    still : (after ≡ old.first) ⊎ IsNaming old.first after own → (with_first old after ≡ old) ⊎ IsLife own
    still (inl same) = inl (ap (with_first old) same)
    still (inr naming) = inr (of-naming old.first after own naming)
first-read old after text (Err Unread) few run = record {
  read = tt;
  found = λ then other l. tt;
  unread = (λ e then own l. run.unread.0 refl then.first own l.0, λ n. refl);
  memory = λ e. absurd (cc e);
  frames = λ e. absurd (cc e);
  kept = ap (with_first old) run.kept;
  still = tt;
  within = tt;
}
first-read old after text (Err Memory) few run = record {
  read = tt;
  found = λ then other l. tt;
  unread = (
    λ e. absurd (cc e),
    λ n. let m = run.memory refl in absurd (n (with_first old m.0) m.1 (m.2, refl)),
  );
  memory = λ e. let m = run.memory refl in (with_first old m.0, m.1, (m.2, refl));
  frames = λ e then own l. run.frames refl then.first own l.0;
  kept = ap (with_first old) run.kept;
  still = tt;
  within = tt;
}

-- what reading under names answers
pub record IsKnown (names : List Name) (text : List ℕ) (r : Result Fact FactError) : Type 0 where
  pub read : IfOk r (λ fact. Says names text fact)
  pub within : IfOk r (λ fact. place fact < length names)
  pub found : (fact : Fact) → Says names text fact → IfOk r (λ answer. answer ≡ fact)
  pub unread : (r ≡ Err Unread) ↔ ((fact : Fact) → Says names text fact → ⊥)
  pub memory : r ≡ Err Memory → (fact : Fact) × Says names text fact
  pub frames : r ≡ Err Memory → (fact : Fact) → Says names text fact → IsOfFrame fact

pub second-unread : (old : Names) (text : List ℕ) (r : Result Fact FactError) → IsKnown old.first text r
    → is_unread r ≡ true → IsRead Second old text old r
second-unread old text (Ok own) known is = absurd (cc is)
second-unread old text (Err Memory) known is = absurd (cc is)
second-unread old text (Err Unread) known is = record {
  read = tt;
  found = λ then own l. tt;
  unread = (λ e then own l. known.unread.0 refl own l.0, λ n. refl);
  memory = λ e. absurd (cc e);
  frames = λ e. absurd (cc e);
  kept = refl;
  still = tt;
  within = tt;
}

-- a text that is read under the names of the first group tells some fact
known-some : (names : List Name) (text : List ℕ) (r : Result Fact FactError) → IsKnown names text r
    → is_unread r ≡ false → (fact : Fact) × Says names text fact
known-some names text (Ok own) known is = (own, known.read)
known-some names text (Err Unread) known is = absurd (cc is)
known-some names text (Err Memory) known is = known.memory refl

-- a name is given by a life in both groups
life-too : (names others after : List Name) (text : List ℕ) (own there : Fact) → Says names text own
    → Says after text there → IsNaming others after there → IsLife own
life-too names others after text own there says said naming =
    life-line names after own (length others) naming.mi
    (says.1 ∙ sym said.1 ∙ ap (λ (f : Fact). line after f) naming.life)

no-frame : (fact : Fact) → IsOfFrame fact → IsLife fact → ⊥
no-frame (shows.Framed k s sec octets) frame life = life
no-frame (shows.Arrived k s arrival) frame life = life
no-frame _ frame life = frame

pub second-read : (old : Names) (after : List Name) (text : List ℕ) (here there : Result Fact FactError)
    → length old.first ≤ most_named → IsKnown old.first text here → is_unread here ≡ false
    → IsRun old.second after text there → IsRead Second old text (with_second old after) (both here there)
second-read old after text (Ok own) (Ok other) few known is run = record {
  read = (known.read, refl, (other, run.read));
  found = λ then that l.
      let f = run.found then.second l.2.0 l.2.1 in
      (known.found that l.0, (λ i. record { first = sym l.1 i; second = f.1 i }));
  unread = (
    λ e. absurd (cc e),
    λ n. absurd (n (with_second old after) own (known.read, refl, (other, run.read))),
  );
  memory = λ e. absurd (cc e);
  frames = λ e. absurd (cc e);
  kept = tt;
  still = still run.read.1;
  within = let less = known.within in omega (arith, less, few);
}
  where
    still : (after ≡ old.second) ⊎ IsNaming old.second after other → (with_second old after ≡ old) ⊎ IsLife own
    still (inl same) = inl (ap (with_second old) same)
    still (inr naming) = inr (life-too old.first old.second after text own other known.read run.read.0 naming)
second-read old after text (Err Unread) (Ok other) few known is run = absurd (cc is)
second-read old after text (Err Memory) (Ok other) few known is run =
    let k = known.memory refl in record {
      read = tt;
      found = λ then own l. tt;
      unread = (
        λ e. absurd (cc e),
        λ n. absurd (n (with_second old after) k.0 (k.1, refl, (other, run.read))),
      );
      memory = λ e. (with_second old after, k.0, (k.1, refl, (other, run.read)));
      frames = λ e then own l. known.frames refl own l.0;
      kept = kept run.read.1;
      still = tt;
      within = tt;
    }
  where
    kept : (after ≡ old.second) ⊎ IsNaming old.second after other → with_second old after ≡ old
    kept (inl same) = ap (with_second old) same
    kept (inr naming) =
        let k = known.memory refl in
        absurd (no-frame k.0 (known.frames refl k.0 k.1)
        (life-too old.first old.second after text k.0 other k.1 run.read.0 naming))
second-read old after text here (Err Unread) few known is run = record {
  read = tt;
  found = λ then own l. tt;
  unread = (λ e then own l. run.unread.0 refl then.second l.2.0 l.2.1, λ n. refl);
  memory = λ e. absurd (cc e);
  frames = λ e. absurd (cc e);
  kept = ap (with_second old) run.kept;
  still = tt;
  within = tt;
}
second-read old after text here (Err Memory) few known is run =
    let k = known-some old.first text here known is in
    let m = run.memory refl in record {
      read = tt;
      found = λ then own l. tt;
      unread = (
        λ e. absurd (cc e),
        λ n. absurd (n (with_second old m.0) k.0 (k.1, refl, (m.1, m.2))),
      );
      memory = λ e. (with_second old m.0, k.0, (k.1, refl, (m.1, m.2)));
      frames = λ e then own l. frame-line old.first then.second own l.2.0 (l.0.1 ∙ sym l.2.1.0.1)
          (run.frames refl then.second l.2.0 l.2.1);
      kept = ap (with_second old) run.kept;
      still = tt;
      within = tt;
    }
