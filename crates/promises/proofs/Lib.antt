pub mod CutExamples
