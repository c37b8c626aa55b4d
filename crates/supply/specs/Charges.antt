-- What is counted: the answers of the ticks of a run, and how many of them name a row.
use Rattle.std.specs.Prelude.{◌≡◌, true, false, cond, List, [], ◌∷◌, ℕ, ◌+◌, ◌*◌, ◌≤◌, eqb, length, take, drop}
use Rattle.supply.specs.System.{System}

-- the rows charged by the ticks of a run of events, in their order
unfoldable pub charges : (S : System) → S.State → List S.Event → List ℕ
charges S σ [] = []
charges S σ (e ∷ es) = elim (S.tick e) [ true ↦ S.charged σ e ∷ charges S (S.next σ e) es | false ↦ charges S (S.next σ e) es ]

-- how many entries are s
unfoldable pub count : ℕ → List ℕ → ℕ
count s [] = 0
count s (c ∷ cs) = cond (eqb c s) 1 0 + count s cs

-- the ticks of the k-th period of length p, counted from 0; fewer where the run ends before
unfoldable pub period_of : ℕ → ℕ → List ℕ → List ℕ
period_of p k cs = take p (drop (k * p) cs)

-- each complete period charges a row exactly its budget, and an unfinished one at most that
pub record Exact (S : System) (σ : S.State) (es : List S.Event) (s : ℕ) : Type 0 where
  pub complete : (k : ℕ) → (k + 1) * S.period s ≤ length (charges S σ es) → count s (period_of (S.period s) k (charges S σ es)) ≡ S.budget s
  pub unfinished : (k : ℕ) → count s (period_of (S.period s) k (charges S σ es)) ≤ S.budget s
