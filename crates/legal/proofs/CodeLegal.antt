-- The order in which a legal state is tested, with ceilings out of a list, gives what the definition says.
use mathlib.Core.Path.{◌≡◌, refl, ap, ◌∙◌}
use mathlib.Core.Bool.{Bool, true, false, ◌&&◌, and_assoc}
use mathlib.Core.List.{List}
use Prim.Native.Nat.{ℕ, ◌<◌}
use native.Mathlib.Nat.{lt_of_lt_of_le}
use lib.Dec.{leb, ltb}
use borrow.Author.Tests.{lt-ltb}
use Rattle.below.specs.Below.{all}
use Rattle.below.specs.Listed.{listed}
use Rattle.below.proofs.Tests.{conjuncts}
use Rattle.below.proofs.Search.{all_at, all_agree, all_both}
use Rattle.plan.specs.declared.Plan.{Plan}
use Rattle.plan.specs.Limits.{most_subsystems, most_tasks}
use Rattle.plan.specs.Ceiling.{ceiling}
use Rattle.plan.specs.Accepted.{accepted}
use Rattle.plan.specs.Facts.{Accepted}
use Rattle.plan.proofs.Facts.{accepted_facts}
use Rattle.state.specs.declared.State.{State}
use Rattle.state.specs.State.{task_at}
use Rattle.legal.specs.Legal.{implies, counts_legal, absent_subsystem, well_written, absent_task, held_legal, section_legal, unused_legal, locals_legal, globals_legal, sections_legal, subsystem_legal, task_legal, legal}
use Rattle.legal.specs.Parts.{counts_fit, alone_legal, task_fits, ordered, apart_from, subsystems_pass, tasks_pass, order_pass}
use Rattle.legal.proofs.CodeSplit.{present_rest}
use Rattle.legal.proofs.CodeCeilings.{ordered_is, apart_from_is}

-- what is asked of a present task besides
together : Plan → State → ℕ → Bool
together p s k = section_legal p s k && (locals_legal p s k && globals_legal p s k) && all p.tasks (sections_legal p s k)

module _ (p : Plan) (s : State) (a : Accepted p) where
  subsystems_split : all most_subsystems (subsystem_legal p s) ≡ (all most_subsystems (counts_fit p s) && all p.subsystems (unused_legal p s))
  unfolding subsystem_legal counts_fit
  subsystems_split = present_rest most_subsystems p.subsystems (counts_legal p s) (unused_legal p s) (absent_subsystem s) a.subsystems_most

  task_regrouped : (k : ℕ) → task_legal p s k
      ≡ (implies (ltb k p.tasks) (alone_legal p k (task_at s k) && together p s k) && implies (leb p.tasks k) (absent_task (task_at s k)))
  unfolding task_legal alone_legal together
  task_regrouped k = simp and_assoc

  together_split : all p.tasks (together p s)
      ≡ (all p.tasks (section_legal p s) && all p.tasks (λ k. locals_legal p s k && globals_legal p s k) && all p.tasks (λ k. all p.tasks (sections_legal p s k)))
  unfolding together
  together_split =
      all_both p.tasks (λ k. section_legal p s k && (locals_legal p s k && globals_legal p s k)) (λ k. all p.tasks (sections_legal p s k))
      ∙ ap (λ (b : Bool). b && all p.tasks (λ k. all p.tasks (sections_legal p s k))) (all_both p.tasks (section_legal p s) (λ k. locals_legal p s k && globals_legal p s k))

  tasks_split : all most_tasks (task_legal p s) ≡ (all most_tasks (task_fits p s) && all p.tasks (together p s))
  unfolding task_fits
  tasks_split =
      all_agree most_tasks (task_legal p s) _ (λ k h. task_regrouped k)
      ∙ present_rest most_tasks p.tasks (λ k. alone_legal p k (task_at s k)) (together p s) (λ k. absent_task (task_at s k)) a.tasks_most

module _ (p : Plan) (s : State) (ceilings : List ℕ) (a : Accepted p) (e : ceilings ≡ listed 16 (ceiling p)) where
  -- what is held is there, from what is asked of each task by itself
  fits_held : all most_tasks (task_fits p s) ≡ true → (k : ℕ) → k < p.tasks → held_legal p k (task_at s k) ≡ true
  unfolding task_fits implies alone_legal
  fits_held e' k h =
      let t = rw (lt-ltb k p.tasks h) at (all_at most_tasks (task_fits p s) e' k (lt_of_lt_of_le h a.tasks_most)) in
      search conjuncts

  rest_by : (all most_tasks (task_fits p s) && (all p.tasks (section_legal p s) && all p.tasks (ordered p ceilings s) && all p.tasks (apart_from p ceilings s)))
      ≡ (all most_tasks (task_fits p s) && all p.tasks (together p s))
  rest_by = go (all most_tasks (task_fits p s)) refl
    where
      go : (f : Bool) → all most_tasks (task_fits p s) ≡ f
          → (f && (all p.tasks (section_legal p s) && all p.tasks (ordered p ceilings s) && all p.tasks (apart_from p ceilings s))) ≡ (f && all p.tasks (together p s))
      go false q = refl
      go true q = rw (
        all_agree p.tasks (ordered p ceilings s) (λ k. locals_legal p s k && globals_legal p s k) (ordered_is p s ceilings a e (fits_held q)),
        all_agree p.tasks (apart_from p ceilings s) (λ k. all p.tasks (sections_legal p s k)) (apart_from_is p s ceilings a e (fits_held q)),
        together_split p s a,
      )

  by_list : (subsystems_pass p s && tasks_pass p s && order_pass p ceilings s) ≡ legal p s
  unfolding subsystems_pass tasks_pass order_pass legal
  by_list = rw (subsystems_split p s a, tasks_split p s a, ← rest_by) (simp and_assoc)

pub legal_tested : (p : Plan) (ceilings : List ℕ) (s : State) → accepted p ≡ true → ceilings ≡ listed 16 (ceiling p)
    → (subsystems_pass p s && tasks_pass p s && order_pass p ceilings s) ≡ legal p s
legal_tested p ceilings s t e = by_list p s ceilings (accepted_facts p t) e
