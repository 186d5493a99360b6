-- SPDX-License-Identifier: MPL-2.0
pub mod Heard
pub mod Report
pub mod Cut
pub mod Join
pub mod Answers
pub mod Events
