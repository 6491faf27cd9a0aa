pub mod ExampleWeights
