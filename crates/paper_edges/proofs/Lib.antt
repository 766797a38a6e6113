pub mod MarkedEdges
