-- SPDX-License-Identifier: MPL-2.0
pub mod Answers
pub mod Opening
pub mod Client
pub mod Step
pub mod Calls
