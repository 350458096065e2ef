use Rattle.std.proofs.Common.{IfErr, refl, sym, subst, take, ◌∙◌}
use Rattle.std.proofs.lemmas.Bool.{false≢true}
use Rattle.git_index.specs.Holding.{IsHeld, LiesInSubmodule}
use Rattle.tree_commands.specs.CheckIgnore.{LeadsTo, Question, Refuses}
use Rattle.tree_commands.specs.Private.Asking.{asked_by}
use Rattle.tree_commands.proofs.lemmas.IgnoreLemmas.{question_same, told_held}
use Rattle.tree_commands.proofs.check_ignore.asking.IgnoreAsker.find_led.Goals as goal

pub returns-then-is_held-clause-found : goal.returns-then-is_held-clause-found
returns-then-is_held-clause-found g c =
    let question = asked_by g.K.PathKinds.known c.args.self.now in
    let asked = c.lead.new.self.path.items in
    let asks = c.lead.ensures.asks in
    let outside = subst (λ (q : Question). ¬ LiesInSubmodule q.tracked asked) asks (λ below. false≢true (c.if-is_in_submodule.ensures.1 below)) in
    let held = subst (λ (q : Question). IsHeld q.tracked asked (q.literal c.args.told.now)) asks (c.if-is_held.ensures.0 refl) in
    told_held question c.args.told.now (take c.in_ok-bare.bare asked) asked c.in_ok-bare.ensures.leads.0 c.in_ok-bare.ensures.leads.1 outside (g.S.FolderLists.shows (Unit {0})) _ held

-- where the path led stays so
pub in_submodule-requires-clause-leads : goal.in_submodule-requires-clause-leads
in_submodule-requires-clause-leads g c =
    let same = question_same c.lead.new.self.standpoint.now c.lead.new.self.flags c.lead.new.self.tracked c.lead.new.self.finder.tree c.check_links.new.self.tree c.check_links.ensures.tree
    (g.K.PathKinds.known c.lead.new.self.finder.kinds) (g.K.PathKinds.known c.check_links.new.self.kinds) c.check_links.ensures.kinds in
    subst (λ (q : Question). LeadsTo q c.args.told.now (take c.in_ok-bare.bare c.lead.new.self.path.items)) (sym (same ∙ c.lead.ensures.asks)) c.in_ok-bare.ensures.leads.0

pub returns-then-is_in_submodule-clause-faults : goal.returns-then-is_in_submodule-clause-faults
returns-then-is_in_submodule-clause-faults g c =
    let same = question_same c.lead.new.self.standpoint.now c.lead.new.self.flags c.lead.new.self.tracked c.lead.new.self.finder.tree c.check_links.new.self.tree c.check_links.ensures.tree
    (g.K.PathKinds.known c.lead.new.self.finder.kinds) (g.K.PathKinds.known c.check_links.new.self.kinds) c.check_links.ensures.kinds in
    subst (λ (q : Question). Refuses q c.args.told.now c.in_submodule.result) (same ∙ c.lead.ensures.asks) c.in_submodule.ensures

pub find_untracked-requires-clause-leads : goal.find_untracked-requires-clause-leads
find_untracked-requires-clause-leads g c =
    subst (λ (q : Question). LeadsTo q c.args.told.now (take c.in_ok-bare.bare c.lead.new.self.path.items)) (sym c.lead.ensures.asks) c.in_ok-bare.ensures.leads.0

pub returns-clause-faults : goal.returns-clause-faults
returns-clause-faults g c = subst (λ (q : Question). IfErr c.find_untracked.result (Refuses q c.args.told.now)) c.lead.ensures.asks c.find_untracked.ensures.faults
