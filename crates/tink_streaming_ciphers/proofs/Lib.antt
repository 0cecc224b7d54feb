pub mod SegmentSteps
