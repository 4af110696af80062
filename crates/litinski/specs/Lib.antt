pub mod LayerRounds
