-- A node more: it is put behind the others if it has the gate.
-- Assumes nothing.
use Rattle.std.proofs.Common.{◌≡◌, refl, sym, ◌∙◌, ap, subst, ◌<◌, take, slice_index_or, arith}
use Rattle.std.proofs.lemmas.List.{get_or-take, length-take-le}
use denote.Enum.Bare.{same_true, same_false}
use borrow.Author.Rules.{rules}
use Rattle.meaning.specs.declared.Gate.{Gate}
use Rattle.meaning.specs.declared.Node.{Node}
use Rattle.meaning.specs.contracts.Gate.{the_type}
use Rattle.decoded.specs.Plans.{no_node, node_of, NodeWithin}
use Rattle.groups.proofs.KindLaws.{gathers_none, gathers_skip, gathers_more, room}
use Rattle.groups.proofs.wires.gather.Goals as goal
use Rattle.groups.proofs.wires.gather.Goals.{then-eq, else-eq}

pub loop-m-init : goal.loop-m-init
loop-m-init c = gathers_none _ _ _

pub push-requires : goal.push-requires
push-requires c =
    let p = c.args.plan.now in
    let d : Node = slice_index_or (take p.size.n p.nodes) c.loop-m.m no_node in
    let last : c.loop-m.m < p.size.n = omega (arith, length-take-le p.size.n p.nodes p.decoded.nodes_long) in
    let here : d ≡ node_of p.nodes c.loop-m.m = get_or-take p.size.n p.nodes c.loop-m.m no_node last in
    let same = same_true the_type (search rules) d.gate c.args.gate (sym c.eq.ensures ∙ c.if-eq.true) in
    (omega arith, room c.loop-m.invariant last (ap (λ (n : Node). n.gate) (sym here) ∙ same) c.requires)

pub loop-m-preserved : goal.loop-m-preserved
loop-m-preserved c =
    let p = c.args.plan.now in
    let d : Node = slice_index_or (take p.size.n p.nodes) c.loop-m.m no_node in
    let last : c.loop-m.m < p.size.n = omega (arith, length-take-le p.size.n p.nodes p.decoded.nodes_long) in
    let here : d ≡ node_of p.nodes c.loop-m.m = get_or-take p.size.n p.nodes c.loop-m.m no_node last in
    let within : NodeWithin p.size.n d = subst (NodeWithin p.size.n) (sym here) (p.decoded.node c.loop-m.m last) in
    elim c.if-eq.branch [
      | then-eq w ↦
          let same = same_true the_type (search rules) d.gate c.args.gate (sym c.eq.ensures ∙ w.if-eq.true) in
          rw (w.wires-is, w.push.ensures.items)
          (gathers_more c.loop-m.invariant _ refl (sym here ∙ ap (λ (g : Gate). record { gate = g; p = d.p; q = d.q; r = d.r }) same)
          (record {
            node = omega (arith, p.decoded.n_most);
            p = omega (arith, within.p, p.decoded.n_most);
            q = omega (arith, within.q, p.decoded.n_most);
            r = omega (arith, within.r, p.decoded.n_most);
          }))
      | else-eq w ↦
          rw w.wires-is
          (gathers_skip c.loop-m.invariant (λ e. same_false the_type d.gate c.args.gate (sym c.eq.ensures ∙ w.if-eq.false) (ap (λ (n : Node). n.gate) here ∙ e)))
    ]
