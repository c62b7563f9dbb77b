-- What the views of nodes are.
use Rattle.properties.specs.declared.pairs.NodeView.{NodeView}
use Rattle.properties.specs.Pairs.{JudgedNode}

abbrev pub node_in_view : NodeView → JudgedNode
node_in_view v = record { node = v.node; after = v.after.now; before = v.before.now }
